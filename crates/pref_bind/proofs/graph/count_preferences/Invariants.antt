use Rattle.std.proofs.Common.{◌≡◌, ◌+◌, ◌≤◌, drop, length}
use Rattle.program_form.specs.Programs.{preferences}
use Rattle.pref_bind.proofs.graph.count_preferences.Given as goal

abbrev pub invariant-loop-statement : goal.invariant-loop-statement
invariant-loop-statement l =
    (length (preferences l.statements) ≡ l.count + length (preferences (drop l.statement-index l.statements)))
    × (l.count ≤ l.statement-index)
