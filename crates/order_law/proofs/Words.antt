-- Some direct orders in other words.
use Rattle.std.proofs.Common.{◌<◌, Bool, true, false, IsTrue, IsFalse, refl, sym, ◌∙◌, ⊎_elim, inl, inr, arith}
use Rattle.std.specs.Prelude.{◌↔◌}
use Rattle.std.proofs.lemmas.Bool.{false≢true}
use Rattle.ap_term.specs.Value.{Value}
use Rattle.type_law.proofs.Decides.{decide_less, decide_at_most}
use Rattle.rule_form.proofs.Decided.{IsDecided, decide_true, decide_both, decide_some}
use Rattle.type_law.specs.Orders.{NoGreater, HasSmaller}
use Rattle.element_form.specs.Degrees.{degree}
use Rattle.element_form.specs.Ground.{Statement, Ground, HasFormula}
use Rattle.type_law.specs.Parts.{IsPart, IsProperPart}
use Rattle.element_form.specs.Satisfied.{formulas}
use Rattle.element_form.proofs.Members.{in_formulas, to_formulas}

-- no degree greater, one smaller
pub degree_words : (st : Statement) (x y : Value → Bool) → (NoGreater st x y × HasSmaller st x y) ↔ (NoGreater st x y × (NoGreater st y x → ⊥))
degree_words st x y = (
  λ (h, (e, c, lt)). (h, λ back. let le = back e c in omega (arith, lt, le)),
  λ (h, n). (
    h,
    ⊎_elim (λ s. s) (λ none_is. absurd (n (λ e c. ⊎_elim (λ le. le) (λ gt. absurd (none_is (e, c, omega (arith, gt)))) (decide_at_most (degree y e) (degree x e)))))
        (decide_some st.elements (λ (e : Ground). degree x e < degree y e) (λ e. decide_less (degree x e) (degree y e))),
  ),
)

-- a proper part: a part, and the other has a formula that it has not
pub proper_words : (st : Statement) (x y : Value → Bool) → IsProperPart st x y ↔ (IsPart st x y × ((f : Value) × HasFormula st f × IsTrue (y f) × IsFalse (x f)))
proper_words st x y = (
  λ (h, n). (
    h,
    ⊎_elim (λ (f, c, (yf, xf)). (f, in_formulas st f c, yf, xf)) (λ none_is. absurd (n (λ f has yf. other (x f) (λ off. none_is (f, to_formulas st f has, (yf, off))))))
        (decide_some (formulas st) (λ f. IsTrue (y f) × IsFalse (x f)) (λ f. decide_both _ _ (decide_true (y f)) (decide_off (x f)))),
  ),
  λ (h, (f, has, yf, xf)). (h, λ back. false≢true (sym xf ∙ back f has yf)),
)
  where
    decide_off : (b : Bool) → IsDecided (IsFalse b)
    decide_off true = inr (λ e. false≢true (sym e))
    decide_off false = inl refl

    other : (b : Bool) → (IsFalse b → ⊥) → IsTrue b
    other true n = refl
    other false n = absurd (n refl)
