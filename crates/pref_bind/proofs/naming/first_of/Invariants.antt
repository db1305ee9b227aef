use Rattle.std.proofs.Common.{◌≡◌, drop, take}
use Rattle.pref_bind.specs.Before.{StandsBefore}
use Rattle.pref_bind.specs.Causes.{first_misnamed, misnamed_from}
use Rattle.pref_bind.proofs.naming.first_of.Given as goal

-- the first is the first of the rest
abbrev pub invariant-loop-statement : goal.invariant-loop-statement
invariant-loop-statement l = record {
  before : StandsBefore (take l.statement-index l.statements) l.before;
  first : first_misnamed l.statements ≡ misnamed_from l.statements (take l.statement-index l.statements) (drop l.statement-index l.statements);
}
