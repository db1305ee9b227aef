-- Laws of one or more steps.
use Rattle.std.proofs.Common.{Bool, true, false, ◌||◌, ◌&&◌, List, [], ◌∷◌, Contains, IsTrue, refl, sym, subst, ⊎_elim, inl, inr}
use Rattle.std.specs.Prelude.{◌⊎◌, ◌↔◌}
use Rattle.std.proofs.lemmas.Bool.{false≢true}
use Rattle.element_form.specs.Closures.{Leads, IsAmong, IsWalk, through_all}
use Rattle.element_form.specs.Closures.Leads.{one, more}
use Rattle.rule_form.proofs.Unfolds.{first_or_rest, nothing_in}

pub leads_then : {A : Type 0} (Step : A → A → Type 0) (a b c : A) → Leads Step a b → Leads Step b c → Leads Step a c
leads_then Step a b c p (one s) = more p s
leads_then Step a b c p (more {b = m} q s) = more (leads_then Step a b m p q) s

-- what holds of each step and is transitive holds of more
pub along : {A : Type 0} (Step R : A → A → Type 0) → ((a b : A) → Step a b → R a b) → ((a b c : A) → R a b → R b c → R a c) → (a b : A) → Leads Step a b → R a b
along Step R each trans a b (one s) = each a b s
along Step R each trans a b (more {b = m} p s) = trans a m b (along Step R each trans a m p) (each m b s)

-- where it goes on with each step, it need not be transitive
pub along_steps : {A : Type 0} (Step R : A → A → Type 0) → ((a b : A) → Step a b → R a b) → ((a b c : A) → R a b → Step b c → R a c) → (a b : A) → Leads Step a b → R a b
along_steps Step R each goes a b (one s) = each a b s
along_steps Step R each goes a b (more {b = m} p s) = goes a m b (along_steps Step R each goes a m p) s

-- more steps of what has each step of the other
pub leads_same : {A : Type 0} (Step Other : A → A → Type 0) → ((a b : A) → Step a b → Other a b) → (a b : A) → Leads Step a b → Leads Other a b
leads_same Step Other each a b (one s) = one (each a b s)
leads_same Step Other each a b (more {b = m} p s) = more (leads_same Step Other each a m p) (each m b s)

-- ---- a test of one or more steps

left : (p q : Bool) → IsTrue p → IsTrue (p || q)
left true q e = refl
left false q e = absurd (false≢true e)

right : (p q : Bool) → IsTrue q → IsTrue (p || q)
right true q e = refl
right false q e = e

or_either : (p q : Bool) → IsTrue (p || q) → IsTrue p ⊎ IsTrue q
or_either true q e = inl refl
or_either false q e = inr e

both : (p q : Bool) → IsTrue p → IsTrue q → IsTrue (p && q)
both true q e f = f
both false q e f = absurd (false≢true e)

halves : (p q : Bool) → IsTrue (p && q) → IsTrue p × IsTrue q
halves true q e = (refl, e)
halves false q e = absurd (false≢true e)

module _ {A : Type 0} (test : A → A → Bool) where
  abbrev Step : A → A → Type 0
  Step a b = IsTrue (test a b)

  -- taken apart
  apart : (k : A) (ks : List A) (a b : A) → IsTrue (through_all test (k ∷ ks) a b) → IsTrue (through_all test ks a b) ⊎ (IsTrue (through_all test ks a k) × IsTrue (through_all test ks k b))
  apart k ks a b e = ⊎_elim (λ h. inl h) (λ h. inr (halves _ _ h)) (or_either (through_all test ks a b) _ e)

  direct : (k : A) (ks : List A) (a b : A) → IsTrue (through_all test ks a b) → IsTrue (through_all test (k ∷ ks) a b)
  direct k ks a b e = left (through_all test ks a b) _ e

  via : (k : A) (ks : List A) (a b : A) → IsTrue (through_all test ks a k) → IsTrue (through_all test ks k b) → IsTrue (through_all test (k ∷ ks) a b)
  via k ks a b e f = right (through_all test ks a b) _ (both (through_all test ks a k) _ e f)

  sound : (ks : List A) (a b : A) → IsTrue (through_all test ks a b) → Leads Step a b
  sound [] a b e = one e
  sound (k ∷ ks) a b e = ⊎_elim (λ h. sound ks a b h) (λ (h, i). leads_then Step a k b (sound ks a k h) (sound ks k b i)) (apart k ks a b e)

  steps_are : (ks : List A) (a b : A) → Step a b → IsTrue (through_all test ks a b)
  steps_are [] a b s = s
  steps_are (k ∷ ks) a b s = direct k ks a b (steps_are ks a b s)

  -- it is transitive at each of these
  joins : (ks : List A) (a m b : A) → Contains ks m → IsTrue (through_all test ks a m) → IsTrue (through_all test ks m b) → IsTrue (through_all test ks a b)
  joins [] a m b c e f = absurd (nothing_in m c)
  joins (k ∷ ks) a m b c e f = ⊎_elim
      (λ s. via k ks a b
      (⊎_elim (λ h. subst (λ x. IsTrue (through_all test ks a x)) (sym s) h) (λ (h, i). h) (apart k ks a m e))
      (⊎_elim (λ h. subst (λ x. IsTrue (through_all test ks x b)) (sym s) h) (λ (h, i). i) (apart k ks m b f)))
      (λ r. ⊎_elim
      (λ h. ⊎_elim (λ i. direct k ks a b (joins ks a m b r h i)) (λ (i, j). via k ks a b (joins ks a m k r h i) j) (apart k ks m b f))
      (λ (h, g). ⊎_elim (λ i. via k ks a b h (joins ks k m b r g i)) (λ (i, j). via k ks a b h j) (apart k ks m b f))
      (apart k ks a m e))
      (first_or_rest k ks m c)

  -- where both ends of each step are among these, it is one or more steps
  pub through_all_is : (ks : List A) → IsAmong ks Step → (a b : A) → IsTrue (through_all test ks a b) ↔ Leads Step a b
  through_all_is ks among a b = (sound ks a b, along_steps Step (λ c d. IsTrue (through_all test ks c d)) (steps_are ks) (λ c d e h s. joins ks c d e (among d e s).0 h (steps_are ks d e s)) a b)

  -- a walk marks just what one or more steps lead to
  pub walk_is : (ks : List A) → IsAmong ks Step → (a : A) (marked : A → Bool) → IsWalk Step a marked → (b : A) → IsTrue (marked b) ↔ Leads Step a b
  walk_is ks among a marked walk b = (
    λ m. sound ks a b (walk.least (through_all test ks a) (λ c s. steps_are ks a c s) (λ c d h s. joins ks a c d (among c d s).0 h (steps_are ks c d s)) b m),
    marks a walk.begins walk.goes_on b,
  )
    where
      marks : (a : A) → ((c : A) → Step a c → IsTrue (marked c)) → ((c d : A) → IsTrue (marked c) → Step c d → IsTrue (marked d)) → (b : A) → Leads Step a b → IsTrue (marked b)
      marks a begins goes_on b (one s) = begins b s
      marks a begins goes_on b (more {b = m} p s) = goes_on m b (marks a begins goes_on m p) s
