-- Entries by number.
use Rattle.std.proofs.Common.{◌≡◌, ℕ, zero, suc, ◌+◌, ◌≤◌, ◌⊎◌, inl, inr, ◌++◌, List, [], ◌∷◌, length, take, map, Some, refl, arith}
use Rattle.std.specs.Option.{option_map}
use Rattle.std.proofs.lemmas.Option.{slice_get-map, slice_get_within}
use Rattle.theory_form.specs.Numbers.{at_number}

pub at_number-map : {A B : Type 0} (f : A → B) (xs : List A) (v : ℕ) → at_number (map f xs) v ≡ option_map f (at_number xs v)
at_number-map f xs zero = refl
at_number-map f xs (suc k) = slice_get-map f xs k

pub at_number_within : {A : Type 0} (xs : List A) (v : ℕ) (k : A) → at_number xs v ≡ Some k → v ≤ length xs
at_number_within xs zero k h = omega arith
at_number_within xs (suc v) k h = let w = slice_get_within xs v k h in omega arith

-- an entry after one more came: it is an earlier one, or the last
pub at_number-push : {A : Type 0} (xs : List A) (x : A) (v : ℕ) (k : A) → at_number (xs ++ x ∷ []) v ≡ Some k → (at_number xs v ≡ Some k) ⊎ ((v ≡ length xs + 1) × (x ≡ k))
at_number-push xs x zero k h = inl h
at_number-push [] x (suc zero) k h = inr (omega arith, cc)
at_number-push [] x (suc (suc j)) k h = inl h
at_number-push (y ∷ ys) x (suc zero) k h = inl h
at_number-push (y ∷ ys) x (suc (suc j)) k h = elim (at_number-push ys x (suc j) k h) [
  | inl there ↦ inl there
  | inr last ↦ inr (let e = last.0 in omega arith, last.1)
]

-- an earlier entry stays
pub at_number-more : {A : Type 0} (xs ys : List A) (v : ℕ) (k : A) → at_number xs v ≡ Some k → at_number (xs ++ ys) v ≡ Some k
at_number-more xs ys zero k h = h
at_number-more [] ys (suc j) k h = cc
at_number-more (x ∷ xs) ys (suc zero) k h = h
at_number-more (x ∷ xs) ys (suc (suc j)) k h = at_number-more xs ys (suc j) k h

pub at_number-last : {A : Type 0} (xs : List A) (x : A) (v : ℕ) → v ≡ length xs + 1 → at_number (xs ++ x ∷ []) v ≡ Some x
at_number-last xs x zero h = absurd (omega arith)
at_number-last [] x (suc zero) h = refl
at_number-last [] x (suc (suc j)) h = absurd (omega arith)
at_number-last (y ∷ ys) x (suc zero) h = absurd (omega arith)
at_number-last (y ∷ ys) x (suc (suc j)) h = at_number-last ys x (suc j) (omega arith)

-- the entries up to a number
pub at_number-take : {A : Type 0} (xs : List A) (n v : ℕ) (k : A) → at_number (take n xs) v ≡ Some k → (at_number xs v ≡ Some k) × (v ≤ n)
at_number-take xs n zero k h = (h, omega arith)
at_number-take xs zero (suc j) k h = absurd (cc)
at_number-take [] (suc n) (suc j) k h = absurd (cc)
at_number-take (x ∷ xs) (suc n) (suc zero) k h = (h, omega arith)
at_number-take (x ∷ xs) (suc n) (suc (suc j)) k h =
    let r = at_number-take xs n (suc j) k h in (r.0, let q = r.1 in omega arith)

pub at_number-kept : {A : Type 0} (xs : List A) (n v : ℕ) → v ≤ n → at_number (take n xs) v ≡ at_number xs v
at_number-kept xs n zero h = refl
at_number-kept xs zero (suc j) h = absurd (omega arith)
at_number-kept [] (suc n) (suc j) h = refl
at_number-kept (x ∷ xs) (suc n) (suc zero) h = refl
at_number-kept (x ∷ xs) (suc n) (suc (suc j)) h = at_number-kept xs n (suc j) (omega arith)
