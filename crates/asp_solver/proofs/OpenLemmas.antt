-- A query is taken out of the open ones.
use Rattle.std.proofs.Common.{◌≡◌, ℕ, zero, suc, ◌+◌, ◌<◌, ◌≤◌, ◌++◌, inl, inr, Bool, true, false, if◌then◌else◌, List, [], ◌∷◌, length, take, drop, Option, Some, None, get_or, refl, ap, sym, ◌∙◌, subst, arith}
use Rattle.std.specs.Prelude.{nat_lt}
use Rattle.std.specs.List.{position, position_or_len, remove}
use Rattle.std.proofs.lemmas.Bool.{cases_Bool}
use Rattle.std.proofs.lemmas.Bool.Decides.{nat_tests}
use lib.Pointwise.{pointwise}
use Rattle.theory_form.specs.declared.literals.Lit.{Lit}
use Rattle.theory_form.specs.Order.{lit_eq}
use Rattle.asp_engine.specs.declared.periods.Query.{Query}
use Rattle.asp_solver.specs.Views.{period_of, without}

if_true : {A : Type 0} (b : Bool) (x y : A) → b ≡ true → (if b then x else y) ≡ x
if_true b x y h = rw h refl

if_false : {A : Type 0} (b : Bool) (x y : A) → b ≡ false → (if b then x else y) ≡ y
if_false b x y h = rw h refl

-- the query at a place is the first with the assumptions
pub taken_at : (qs : List Query) (assume : List Lit) (place : ℕ) (d : Query) → place < length qs → pointwise lit_eq (get_or qs place d).assume assume ≡ true →
    ((k : ℕ) → k < place → pointwise lit_eq (get_or qs k d).assume assume ≡ false) →
    (without qs assume ≡ remove qs place) × (period_of qs assume ≡ Some (get_or qs place d).period)
taken_at [] assume place d within own before = absurd (omega (arith, within))
taken_at (q ∷ qs) assume zero d within own before = (
  if_true (pointwise lit_eq q.assume assume) qs (q ∷ without qs assume) own,
  if_true (pointwise lit_eq q.assume assume) (Some q.period) (period_of qs assume) own,
)
taken_at (q ∷ qs) assume (suc place) d within own before =
    let first : pointwise lit_eq q.assume assume ≡ false = before 0 (omega arith) in
    let rest = taken_at qs assume place d (omega (arith, within)) own (λ k less. before (suc k) (omega (arith, less))) in (
      if_false (pointwise lit_eq q.assume assume) qs (q ∷ without qs assume) first ∙ ap (λ xs. q ∷ xs) rest.0,
      if_false (pointwise lit_eq q.assume assume) (Some q.period) (period_of qs assume) first ∙ rest.1,
    )

-- none has them
pub none_at : (qs : List Query) (assume : List Lit) (d : Query) → ((k : ℕ) → k < length qs → pointwise lit_eq (get_or qs k d).assume assume ≡ false) →
    (without qs assume ≡ qs) × (period_of qs assume ≡ None)
none_at [] assume d none = (refl, refl)
none_at (q ∷ qs) assume d none =
    let first : pointwise lit_eq q.assume assume ≡ false = none 0 (omega arith) in
    let rest = none_at qs assume d (λ k less. none (suc k) (omega (arith, less))) in (
      if_false (pointwise lit_eq q.assume assume) qs (q ∷ without qs assume) first ∙ ap (λ xs. q ∷ xs) rest.0,
      if_false (pointwise lit_eq q.assume assume) (Some q.period) (period_of qs assume) first ∙ rest.1,
    )

first_within : {A : Type 0} (p : A → Bool) (xs : List A) (k : ℕ) (d : A) → k < length xs → p (get_or xs k d) ≡ true → position_or_len p xs ≤ k
first_within p [] k d w h = absurd (omega (arith, w))
first_within p (x ∷ xs) zero d w h = rw h (omega arith)
first_within p (x ∷ xs) (suc k) d w h = elim (cases_Bool (p x)) [
  | inl on ↦ rw on (omega arith)
  | inr off ↦ let r = first_within p xs k d (omega (arith, w)) h in rw off (omega (arith, r))
]

-- where none passes first, none passes
pub none_passes : {A : Type 0} (p : A → Bool) (xs : List A) → position p xs ≡ None → (k : ℕ) (d : A) → k < length xs → p (get_or xs k d) ≡ false
none_passes p xs h k d w = elim (cases_Bool (p (get_or xs k d))) [
  | inr off ↦ off
  | inl on ↦ absurd (
      let le = first_within p xs k d w on in
      let lt : position_or_len p xs < length xs = omega (arith, le, w) in
      let test : nat_lt (position_or_len p xs) (length xs) ≡ true = grind (arith, nat_tests) in
      let z : Some (position_or_len p xs) ≡ None = sym (if_true (nat_lt (position_or_len p xs) (length xs)) (Some (position_or_len p xs)) None test) ∙ h in
      cc)
]
