-- Tests of what is decided.
use Rattle.std.proofs.Common.{◌≡◌, Bool, true, false, List, IsTrue, refl, sym, ap, inl, inr}
use Rattle.std.specs.Prelude.{◌↔◌}
use Rattle.std.proofs.lemmas.Bool.{false≢true}
use Rattle.ap_term.specs.Value.{Value}
use Rattle.element_form.specs.Closures.{Leads, IsAmong, through_all}
use Rattle.element_form.proofs.Closure.{leads_same, through_all_is}
use Rattle.rule_form.proofs.Decided.{IsDecided, decide_same, decide_as}
use Rattle.element_form.specs.Ground.{Target, For, Name}

abbrev pub test_of : {P : Type 0} → IsDecided P → Bool
test_of (inl p) = true
test_of (inr n) = false

pub test_is : {P : Type 0} (d : IsDecided P) → IsTrue (test_of d) ↔ P
test_is (inl p) = (λ e. p, λ q. refl)
test_is (inr n) = (λ e. absurd (false≢true e), λ q. absurd (n q))

pub decide_bool : (a b : Bool) → IsDecided (a ≡ b)
decide_bool true true = inl refl
decide_bool true false = inr (λ e. false≢true (sym e))
decide_bool false true = inr (λ e. false≢true e)
decide_bool false false = inl refl

abbrev is_for : Target → Bool
is_for (For f) = true
is_for (Name q) = false

abbrev formula_in : Target → Value
formula_in (For f) = f
formula_in (Name q) = q

pub decide_target : (t : Target) (f : Value) → IsDecided (t ≡ For f)
decide_target (For g) f = decide_as _ _ (λ e. ap (λ h. For h) e) (λ e. ap formula_in e) (decide_same g f)
decide_target (Name q) f = inr (λ e. false≢true (ap is_for e))

-- one or more steps are decided where a step is, and the ends of steps are among finitely many
module _ {A : Type 0} (Step : A → A → Type 0) (xs : List A) (among : IsAmong xs Step) (decided : (a b : A) → IsDecided (Step a b)) where
  abbrev step_test : A → A → Bool
  step_test a b = test_of (decided a b)

  abbrev pub leads_test : A → A → Bool
  leads_test a b = through_all step_test xs a b

  pub leads_test_is : (a b : A) → IsTrue (leads_test a b) ↔ Leads Step a b
  leads_test_is a b =
      let h : IsTrue (leads_test a b) ↔ Leads (λ c d. IsTrue (step_test c d)) a b = through_all_is step_test xs (λ c d s. among c d ((test_is (decided c d)).0 s)) a b in (
        λ e. leads_same (λ c d. IsTrue (step_test c d)) Step (λ c d s. (test_is (decided c d)).0 s) a b (h.0 e),
        λ p. h.1 (leads_same Step (λ c d. IsTrue (step_test c d)) (λ c d s. (test_is (decided c d)).1 s) a b p),
      )
