use Rattle.std.proofs.Common.{◌≡◌, ◌≤◌, ◌++◌, drop}
use Rattle.pref_bind.specs.Found.{cyclic_from}
use Rattle.program_form.specs.Programs.{preferences}
use Rattle.pref_bind.proofs.cycles.names_on_cycles.Given as goal

abbrev pub invariant-loop-statement : goal.invariant-loop-statement
invariant-loop-statement l =
    (cyclic_from l.graph l.numbers 0 (preferences l.statements)
    ≡ l.names ++ cyclic_from l.graph l.numbers l.node (preferences (drop l.statement-index l.statements)))
    × (l.node ≤ l.statement-index)
