use Rattle.std.proofs.Common.{◌≡◌, [], ◌∷◌, map}
use Rattle.std.proofs.lemmas.Simd.{map-map}
use Rattle.std.proofs.lemmas.Grind.{common_steps}
use Rattle.std.proofs.Common.{arith}
use Rattle.theory_build.specs.Entries as spec
use Rattle.theory_form.specs.Literals.{opposite}
use Rattle.theory_form.specs.declared.literals.Lit.{Lit}
use Rattle.theory_build.proofs.clauses.support_clauses.Goals as goal

pub returns : goal.returns
returns c =
    let e = map-map (λ (m : Lit). spec.clause (spec.yes c.args.v ∷ m ∷ [])) opposite c.args.forcing.now in
    grind (arith, common_steps, e)
