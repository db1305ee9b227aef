use Rattle.search_law.specs.Closed.{truths}
use Rattle.asp_solver.proofs.FoundLemmas.{AreTrue}
use Rattle.asp_solver.proofs.found.true_atoms.Given as goal

abbrev pub invariant-loop-number : goal.invariant-loop-number
invariant-loop-number l = AreTrue l.t (truths l.a) l.number l.ids.items
