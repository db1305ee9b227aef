use Rattle.std.proofs.Common.{◌≡◌, map, take}
use Rattle.ap_eval.specs.AtomSets.{has}
use Rattle.small_optima.specs.Preferred.{satisfies}
use Rattle.small_optima.proofs.preferred.marks.Given as goal

abbrev pub invariant-loop-element : goal.invariant-loop-element
invariant-loop-element l = l.marks ≡ map (satisfies (has l.set)) (take l.element-index l.elements)
