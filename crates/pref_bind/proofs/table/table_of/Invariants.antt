use Rattle.std.proofs.Common.{◌≡◌, ◌≤◌, length, take}
use Rattle.program_form.specs.Programs.{preferences}
use Rattle.pref_bind.specs.Tables.{IsTableOf}
use Rattle.pref_bind.proofs.table.table_of.Given as goal

abbrev pub invariant-loop-statement : goal.invariant-loop-statement
invariant-loop-statement l = record {
  table : IsTableOf (preferences (take l.statement-index l.statements)) l.table;
  count : length (preferences (take l.statement-index l.statements)) ≡ l.count;
  below : l.count ≤ l.statement-index;
}
