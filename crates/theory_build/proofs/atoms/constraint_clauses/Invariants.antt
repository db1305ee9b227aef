use Rattle.std.proofs.Common.{◌≡◌, [], ◌∷◌, map, take}
use Rattle.theory_form.specs.declared.literals.Lit.{Lit}
use Rattle.theory_form.specs.Literals.{opposite}
use Rattle.theory_build.proofs.atoms.constraint_clauses.Given as goal

abbrev pub invariant-loop-body : goal.invariant-loop-body
invariant-loop-body l = l.clauses.items ≡ map (λ (b : Lit). opposite b ∷ []) (take l.body-index l.body-items)
