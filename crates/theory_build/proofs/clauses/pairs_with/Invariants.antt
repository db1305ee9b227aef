use Rattle.std.proofs.Common.{◌≡◌, [], ◌∷◌, map, take}
use Rattle.theory_build.specs.Entries as spec
use Rattle.theory_build.proofs.clauses.pairs_with.Given as goal

abbrev pub invariant-loop-m : goal.invariant-loop-m
invariant-loop-m l = l.clauses.items ≡ map (λ m. spec.clause (l.l ∷ m ∷ [])) (take l.m-index l.lits)
