-- The greater formula of `poset`: one or more times before the other.
use Rattle.std.proofs.Common.{◌≡◌, ℕ, zero, suc, ◌<◌, Bool, List, [], ◌∷◌, length, Contains, IsTrue, refl, ap, ◌∙◌, inl, inr, arith}
use Rattle.std.specs.Prelude.{◌⊎◌, ◌↔◌, slice_index_or}
use Rattle.ap_term.specs.Value.{Value}
use Rattle.element_form.specs.Closures.{IsAmong}
use Rattle.element_form.proofs.Testing.{decide_target, leads_test, leads_test_is}
use Rattle.rule_form.proofs.Decided.{IsDecided, decide_true, decide_both, decide_either, decide_some, decide_as}
use Rattle.element_form.specs.Greater.{StandsBefore, IsGreater}
use Rattle.element_form.specs.Ground.{Statement, Ground, Ranked, For}
use Rattle.element_form.specs.Satisfied.{formulas}
use Rattle.element_form.proofs.Members.{to_formulas}

abbrev Before : List Ranked → Value → Value → Type 0
Before [] f g = ⊥
Before (r ∷ rs) f g = ((r.target ≡ For f) × ((q : Ranked) × Contains rs q × (q.target ≡ For g))) ⊎ Before rs f g

before_decided : (ranks : List Ranked) (f g : Value) → IsDecided (Before ranks f g)
before_decided [] f g = inr (λ h. h)
before_decided (r ∷ rs) f g = decide_either _ _ (decide_both _ _ (decide_target r.target f) (decide_some rs (λ q. q.target ≡ For g) (λ q. decide_target q.target g))) (before_decided rs f g)

abbrev AtPlaces : List Ranked → Value → Value → Type 0
AtPlaces ranks f g = (q r : Ranked) × (i j : ℕ) × (i < j) × (j < length ranks) × (slice_index_or ranks i q ≡ q) × (q.target ≡ For f) × (slice_index_or ranks j r ≡ r) × (r.target ≡ For g)

at_places : (ranks : List Ranked) (f g : Value) → Before ranks f g → AtPlaces ranks f g
at_places [] f g h = absurd h
at_places (r ∷ rs) f g (inl (e, (q, (k, lt, at), t))) = (r, q, 0, suc k, omega arith, omega (arith, lt), refl, e, at, t)
at_places (r ∷ rs) f g (inr h) = let (q, p, i, j, ij, lt, at, t, at2, t2) = at_places rs f g h in (q, p, suc i, suc j, omega (arith, ij), omega (arith, lt), at, t, at2, t2)

from_places : (ranks : List Ranked) (f g : Value) (q r : Ranked) (i j : ℕ) → i < j → j < length ranks → slice_index_or ranks i q ≡ q → q.target ≡ For f → slice_index_or ranks j r ≡ r → r.target ≡ For g → Before ranks f g
from_places [] f g q r i j ij lt at t at2 t2 = absurd (omega (arith, lt))
from_places (x ∷ xs) f g q r zero zero ij lt at t at2 t2 = absurd (omega (arith, ij))
from_places (x ∷ xs) f g q r zero (suc j) ij lt at t at2 t2 = inl (ap (λ (y : Ranked). y.target) at ∙ t, (r, (j, omega (arith, lt), at2), t2))
from_places (x ∷ xs) f g q r (suc i) zero ij lt at t at2 t2 = absurd (omega (arith, ij))
from_places (x ∷ xs) f g q r (suc i) (suc j) ij lt at t at2 t2 = inr (from_places xs f g q r i j (omega (arith, ij)) (omega (arith, lt)) at t at2 t2)

module _ (st : Statement) where
  pub stands_decided : (f g : Value) → IsDecided (StandsBefore st f g)
  stands_decided f g = decide_as _ _
      (λ (e, among, h). let (q, r, i, j, ij, lt, at, t, at2, t2) = at_places e.ranks f g h in (e, q, r, i, j, among, ij, lt, at, t, at2, t2))
      (λ (e, q, r, i, j, among, ij, lt, at, t, at2, t2). (e, among, from_places e.ranks f g q r i j ij lt at t at2 t2))
      (decide_some st.elements (λ (e : Ground). Before e.ranks f g) (λ e. before_decided e.ranks f g))

  pub stands_among : IsAmong (formulas st) (StandsBefore st)
  stands_among f g (e, q, r, i, j, among, ij, lt, at, t, at2, t2) = (to_formulas st f (e, q, among, (i, omega (arith, ij, lt), at), t), to_formulas st g (e, r, among, (j, lt, at2), t2))

  abbrev pub greater_test : Value → Value → Bool
  greater_test = leads_test (StandsBefore st) (formulas st) stands_among stands_decided

  pub greater_test_is : (f g : Value) → IsTrue (greater_test f g) ↔ IsGreater st f g
  greater_test_is = leads_test_is (StandsBefore st) (formulas st) stands_among stands_decided

  pub greater_decided : (f g : Value) → IsDecided (IsGreater st f g)
  greater_decided f g = decide_as _ _ (greater_test_is f g).0 (greater_test_is f g).1 (decide_true (greater_test f g))
