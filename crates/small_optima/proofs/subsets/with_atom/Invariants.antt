use Rattle.std.proofs.Common.{◌≡◌, ◌∷◌, take}
use Rattle.small_optima.proofs.subsets.with_atom.Given as goal

abbrev pub invariant-loop-other : goal.invariant-loop-other
invariant-loop-other l = l.all ≡ l.atom ∷ take l.other-index l.set
