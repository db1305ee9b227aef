use Rattle.std.proofs.Common.{◌≡◌, ◌∷◌, ◌++◌, List, ℕ, map, take}
use Rattle.small_optima.proofs.subsets.push_with_atom.Given as goal

abbrev pub invariant-loop-set : goal.invariant-loop-set
invariant-loop-set l = l.all.items ≡ l.initial.all.items ++ map (λ (set : List (List ℕ)). l.atom ∷ set) (take l.set-index l.sets)
