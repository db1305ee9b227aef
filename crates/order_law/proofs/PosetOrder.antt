-- The order of `poset` is transitive and irreflexive, where greater is.
use Rattle.std.proofs.Common.{◌≡◌, Bool, true, false, not, ◌&&◌, List, [], ◌∷◌, Contains, IsTrue, IsFalse, refl, sym, subst, ◌∙◌, ⊎_elim, inl, inr}
use Rattle.std.specs.Prelude.{◌⊎◌}
use Rattle.std.specs.Bool.{beq}
use Rattle.std.proofs.lemmas.Bool.{false≢true, false_from_ne_true}
use Rattle.ap_term.specs.Value.{Value}
use Rattle.rule_form.proofs.Decided.{IsDecided, decide_true, decide_both, decide_same, decide_as}
use Rattle.rule_form.proofs.Stable.{settled_true}
use Rattle.rule_form.proofs.Totals.{decide_in}
use Rattle.rule_form.proofs.Unfolds.{first_or_rest, nothing_in}
use Rattle.type_law.specs.Covers.{IsAlone}
use Rattle.element_form.specs.Ground.{Statement, HasFormula}
use Rattle.type_law.specs.Parts.{IsSame}
use Rattle.element_form.specs.Satisfied.{formulas}
use Rattle.element_form.specs.Greater.{StandsBefore, IsGreater}
use Rattle.element_form.proofs.Closure.{leads_then}
use Rattle.element_form.proofs.GreaterLaw.{greater_decided}
use Rattle.element_form.proofs.Members.{in_formulas, to_formulas}

abbrev differs : Bool → Bool → Bool → Bool
differs a b c = not (beq a b && beq b c)

module _ (st : Statement) (irreflexive : (f : Value) → IsGreater st f f → ⊥) where
  abbrev Greater : Value → Value → Type 0
  Greater f g = IsGreater st f g

  transitive : (f g h : Value) → Greater f g → Greater g h → Greater f h
  transitive = leads_then (StandsBefore st)

  abbrev Above : Value → Value → Type 0
  Above f g = (f ≡ g) ⊎ Greater f g

  above_greater : (f g h : Value) → Above f g → Greater g h → Greater f h
  above_greater f g h (inl e) gr = subst (λ v. Greater v h) (sym e) gr
  above_greater f g h (inr k) gr = transitive f g h k gr

  not_back : (f g : Value) → Above f g → Greater g f → ⊥
  not_back f g a gr = irreflexive f (above_greater f g f a gr)

  -- a member with P that no member of the list with P is greater than
  climb : (P : Value → Type 0) → ((f : Value) → IsDecided (P f)) → (fs : List Value) (g : Value) → P g
      → (m : Value) × P m × Above m g × ((h : Value) → Contains fs h → P h → Greater h m → ⊥)
  climb P decided [] g p = (g, p, inl refl, λ h c q gr. nothing_in h c)
  climb P decided (f ∷ fs) g p =
      let (m, pm, am, none_m) = climb P decided fs g p in
      ⊎_elim
      (λ (pf, gr). let (n, pn, an, none_n) = climb P decided fs f pf in
      let over : Greater n m = above_greater n f m an gr in (
        n,
        pn,
        inr (⊎_elim (λ e. subst (Greater n) e over) (λ k. transitive n m g over k) am),
        λ h c q k. ⊎_elim (λ e. not_back n f an (subst (λ v. Greater v n) (sym e) k)) (λ r. none_n h r q k) (first_or_rest f fs h c),
      ))
      (λ n. (m, pm, am, λ h c q k. ⊎_elim (λ e. n (subst P (sym e) q, subst (λ v. Greater v m) (sym e) k)) (λ r. none_m h r q k) (first_or_rest f fs h c)))
      (decide_both (P f) (Greater f m) (decided f) (greater_decided st f m))

  abbrev Covers : (Value → Bool) → (Value → Bool) → Type 0
  Covers x y = (g : Value) → IsAlone st y x g → (f : Value) × IsAlone st x y f × Greater f g

  module _ (x y z : Value → Bool) (first : Covers x y) (second : Covers y z) where
    abbrev Differs : Value → Type 0
    Differs f = IsTrue (differs (x f) (y f) (z f))

    both_decided : (f : Value) → IsDecided (Differs f)
    both_decided f = decide_true (differs (x f) (y f) (z f))

    -- a formula on which the three sets differ has one above it, or is one, that x has and z has not
    top : (g : Value) → HasFormula st g → Differs g → (m : Value) × HasFormula st m × Above m g × IsTrue (x m) × IsFalse (z m)
    top g has d =
        let (m, pm, am, none_m) = climb (λ f. HasFormula st f × Differs f) (λ f. decide_both _ _ (decide_as _ _ (in_formulas st f) (to_formulas st f) (decide_in decide_same (formulas st) f)) (both_decided f)) (formulas st) g (has, d) in
        let no_first : IsTrue (y m) → IsFalse (x m) → ⊥ = λ ym xm. let (f, (hf, xf, yf), gr) = first m (pm.0, ym, xm) in none_m f (to_formulas st f hf) (hf, differ_xy f xf yf) gr in
        let no_second : IsTrue (z m) → IsFalse (y m) → ⊥ = λ zm ym. let (f, (hf, yf, zf), gr) = second m (pm.0, zm, ym) in none_m f (to_formulas st f hf) (hf, differ_yz f yf zf) gr in
        let r = by (x m) (y m) (z m) no_first no_second pm.1 in
        (m, pm.0, am, r.0, r.1)
      where
        differ_xy : (f : Value) → IsTrue (x f) → IsFalse (y f) → Differs f
        differ_xy f xf yf = subst (λ b. IsTrue (differs (x f) b (z f))) (sym yf) (subst (λ a. IsTrue (differs a false (z f))) (sym xf) refl)

        differ_yz : (f : Value) → IsTrue (y f) → IsFalse (z f) → Differs f
        differ_yz f yf zf = subst (λ c. IsTrue (differs (x f) (y f) c)) (sym zf) (subst (λ b. IsTrue (differs (x f) b false)) (sym yf) (ends (x f)))
          where
            ends : (a : Bool) → IsTrue (differs a true false)
            ends true = refl
            ends false = refl

        by : (a b c : Bool) → (IsTrue b → IsFalse a → ⊥) → (IsTrue c → IsFalse b → ⊥) → IsTrue (differs a b c) → IsTrue a × IsFalse c
        by true true true p q e = absurd (false≢true e)
        by true true false p q e = (refl, refl)
        by true false true p q e = absurd (q refl refl)
        by true false false p q e = (refl, refl)
        by false true c p q e = absurd (p refl refl)
        by false false true p q e = absurd (q refl refl)
        by false false false p q e = absurd (false≢true e)

    ends_differ : (a b c : Bool) → IsFalse a → IsTrue c → IsTrue (differs a b c)
    ends_differ true b c e f = absurd (false≢true (sym e))
    ends_differ false b false e f = absurd (false≢true f)
    ends_differ false true true e f = refl
    ends_differ false false true e f = refl

    pub covers_trans : Covers x z
    covers_trans g (has, zg, xg) =
        let (m, hm, am, xm, zm) = top g has (ends_differ (x g) (y g) (z g) xg zg) in
        (m, (hm, xm, zm), ⊎_elim (λ e. absurd (false≢true (sym xg ∙ subst (λ v. IsTrue (x v)) e xm))) (λ k. k) am)

    -- and if the ends are the same, all three are
    pub same_ends : IsSame st x z → (f : Value) → HasFormula st f → Differs f → ⊥
    same_ends (part, back) f has d = let (m, hm, am, xm, zm) = top f has d in false≢true (sym zm ∙ part m hm xm)

  pub better_trans : (x y z : Value → Bool) → (IsSame st x y → ⊥) × Covers x y → (IsSame st y z → ⊥) × Covers y z → (IsSame st x z → ⊥) × Covers x z
  better_trans x y z (apart, first) (apart2, second) = (
    λ same. apart (
      λ f has xf. settled_true (y f) (λ d. same_ends x y z first second same f has (first_off (x f) (y f) (z f) xf (false_from_ne_true (y f) d))),
      λ f has yf. settled_true (x f) (λ d. same_ends x y z first second same f has (second_off (x f) (y f) (z f) yf (false_from_ne_true (x f) d))),
    ),
    covers_trans x y z first second,
  )
    where
      first_off : (a b c : Bool) → IsTrue a → IsFalse b → IsTrue (differs a b c)
      first_off true true c e f = absurd (false≢true (sym f))
      first_off true false c e f = refl
      first_off false b c e f = absurd (false≢true e)

      second_off : (a b c : Bool) → IsTrue b → IsFalse a → IsTrue (differs a b c)
      second_off true b c e f = absurd (false≢true (sym f))
      second_off false true c e f = refl
      second_off false false c e f = absurd (false≢true e)

  pub better_irreflexive : (x : Value → Bool) → (IsSame st x x → ⊥) × Covers x x → ⊥
  better_irreflexive x (apart, covers) = apart (λ f has h. h, λ f has h. h)
