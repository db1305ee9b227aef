use Rattle.std.proofs.Common.{◌≡◌, ◌++◌, drop, map}
use Rattle.program_form.specs.Programs.{preferences}
use Rattle.pref_bind.specs.Stacks.{graph_of, numbers_in}
use Rattle.pref_bind.proofs.graph.graph_of.Given as goal

abbrev pub invariant-loop-statement : goal.invariant-loop-statement
invariant-loop-statement l = graph_of (preferences l.statements)
    ≡ l.graph ++ map (numbers_in (preferences l.statements)) (preferences (drop l.statement-index l.statements))
