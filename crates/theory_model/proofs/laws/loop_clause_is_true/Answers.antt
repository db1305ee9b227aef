use Rattle.std.proofs.Common.{◌≡◌, refl, true, false, inl, inr, ⊎_elim, sym, ap, subst}
use Rattle.std.specs.Prelude.{IsTrue}
use Rattle.std.proofs.lemmas.Bool.{cases_Bool}
use Rattle.std.proofs.lemmas.List.Folds.{list_any_at}
use Rattle.std.specs.Bool.{beq}
use Rattle.theory_form.specs.declared.literals.Lit.{Lit}
use Rattle.theory_model.specs.Truth.{literal_true}
use Rattle.theory_model.proofs.laws.loop_clause_is_true.Goals as goal

pub returns : goal.returns
returns c = λ t f model block u atoms v member clause loop.
    let not_v : Lit = record { var = record { 0 = v }; yes = false } in
    ⊎_elim
    (λ (on : f v ≡ true).
    let e = model.loops block u atoms v member on in
    let l : Lit = e.0 in
    let at = (loop.literals l).1 (inr e.1) in
    list_any_at (literal_true f) clause at.0 l at.1 (subst (λ (m : Lit). IsTrue (literal_true f m)) (sym at.2) e.2))
    (λ (off : f v ≡ false).
    let at = (loop.literals not_v).1 (inl refl) in
    list_any_at (literal_true f) clause at.0 not_v at.1 (subst (λ (m : Lit). IsTrue (literal_true f m)) (sym at.2) (ap (λ b. beq b false) off)))
    (cases_Bool (f v))
