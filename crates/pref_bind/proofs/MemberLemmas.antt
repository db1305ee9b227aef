-- Members of lists, and what is read of them.
use Rattle.std.proofs.Common.{◌≡◌, ℕ, zero, suc, ◌+◌, ◌<◌, ◌⊎◌, inl, inr, Bool, true, false, ◌||◌, List, [], ◌∷◌, ◌++◌, length, get_or, map, Option, Some, None, slice_get, refl, sym, ap, ◌∙◌, subst, arith}
use Rattle.std.specs.List.{All, Contains, list_any}
use Rattle.std.specs.Prelude.{slice_index_or}
use Rattle.std.proofs.lemmas.List.{get_or_default}
use Rattle.std.proofs.lemmas.Option.{get_or_from_slice_get, slice_get_read, slice_get_within}

pub nothing_in : {X : Type 0} (x : X) → Contains [] x → ⊥
nothing_in x h = let none : h.0 < 0 = h.1 in omega arith

pub at_head : {X : Type 0} (x : X) (xs : List X) → Contains (x ∷ xs) x
at_head x xs = (0, omega arith, refl)

pub in_tail : {X : Type 0} (x : X) (xs : List X) (y : X) → Contains xs y → Contains (x ∷ xs) y
in_tail x xs y h = let lt = h.1 in (suc h.0, omega arith, h.2)

head_or_tail_at : {X : Type 0} (x : X) (xs : List X) (y : X) (k : ℕ) → k < length (x ∷ xs) → get_or (x ∷ xs) k y ≡ y → (x ≡ y) ⊎ Contains xs y
head_or_tail_at x xs y zero lt e = inl e
head_or_tail_at x xs y (suc k) lt e = inr (k, omega arith, e)

pub head_or_tail : {X : Type 0} (x : X) (xs : List X) (y : X) → Contains (x ∷ xs) y → (x ≡ y) ⊎ Contains xs y
head_or_tail x xs y h = head_or_tail_at x xs y h.0 h.1 h.2

pub in_map : {X Y : Type 0} (f : X → Y) (xs : List X) (x : X) → Contains xs x → Contains (map f xs) (f x)
in_map f [] x h = absurd (nothing_in x h)
in_map f (y ∷ xs) x h = elim (head_or_tail y xs x h) [
  | inl e ↦ subst (λ z. Contains (f y ∷ map f xs) (f z)) e (at_head (f y) (map f xs))
  | inr later ↦ in_tail (f y) (map f xs) (f x) (in_map f xs x later)
]

pub from_map : {X Y : Type 0} (f : X → Y) (xs : List X) (y : Y) → Contains (map f xs) y → (x : X) × Contains xs x × (f x ≡ y)
from_map f [] y h = absurd (nothing_in y h)
from_map f (x ∷ xs) y h = elim (head_or_tail (f x) (map f xs) y h) [
  | inl e ↦ (x, at_head x xs, e)
  | inr later ↦ let r = from_map f xs y later in (r.0, in_tail x xs r.0 r.1, r.2)
]

-- what is read at a place is a member, and a member is read at some place
pub read_in : {X : Type 0} (xs : List X) (i : ℕ) (x : X) → slice_get xs i ≡ Some x → Contains xs x
read_in xs i x e = (i, slice_get_within xs i x e, get_or_from_slice_get xs i x x e)

pub in_read : {X : Type 0} (xs : List X) (x : X) → Contains xs x → (i : ℕ) × (slice_get xs i ≡ Some x)
in_read xs x h = (h.0, slice_get_read xs (length xs) h.0 x refl h.1 (sym h.2))

pub all_if : {X : Type 0} (P : X → Type 0) (xs : List X) → ((x : X) → Contains xs x → P x) → All P xs
all_if P xs each k d lt = each (get_or xs k d) (k, lt, get_or_default xs k (get_or xs k d) d lt)

-- ---- lists of lists that are made of a list

pub row_at : {X Y : Type 0} (f : X → List Y) (xs : List X) (i : ℕ) (x : X) → slice_get xs i ≡ Some x → slice_index_or (map f xs) i [] ≡ f x
row_at f [] i x e = cc
row_at f (y ∷ xs) zero x e = let same : y ≡ x = cc in ap f same
row_at f (y ∷ xs) (suc i) x e = row_at f xs i x e

pub at_row : {X Y : Type 0} (f : X → List Y) (xs : List X) (i : ℕ) (y : Y) → Contains (slice_index_or (map f xs) i []) y → (x : X) × (slice_get xs i ≡ Some x)
at_row f [] i y h = absurd (nothing_in y h)
at_row f (x ∷ xs) zero y h = (x, refl)
at_row f (x ∷ xs) (suc i) y h = at_row f xs i y h

-- ---- tests of members

pub any_true : {X : Type 0} (test : X → Bool) (xs : List X) (x : X) → Contains xs x → test x ≡ true → list_any test xs ≡ true
any_true test [] x h e = absurd (nothing_in x h)
any_true test (y ∷ xs) x h e = elim (head_or_tail y xs x h) [
  | inl same ↦ here (test y) (list_any test xs) (ap test same ∙ e)
  | inr later ↦ there (test y) (list_any test xs) (any_true test xs x later e)
]
  where
    here : (a b : Bool) → a ≡ true → (a || b) ≡ true
    here true b e = refl
    here false b e = cc

    there : (a b : Bool) → b ≡ true → (a || b) ≡ true
    there true b e = refl
    there false b e = e

true_by : {X : Type 0} (test : X → Bool) (xs : List X) (y : X) (b : Bool) → test y ≡ b → (b || list_any test xs) ≡ true
    → (list_any test xs ≡ true → (x : X) × Contains xs x × (test x ≡ true)) → (x : X) × Contains (y ∷ xs) x × (test x ≡ true)
true_by test xs y true is e later = (y, at_head y xs, is)
true_by test xs y false is e later = let r = later e in (r.0, in_tail y xs r.0 r.1, r.2)

pub true_any : {X : Type 0} (test : X → Bool) (xs : List X) → list_any test xs ≡ true → (x : X) × Contains xs x × (test x ≡ true)
true_any test [] e = cc
true_any test (y ∷ xs) e = true_by test xs y (test y) refl e (true_any test xs)

pub any_false : {X : Type 0} (test : X → Bool) (xs : List X) (x : X) → list_any test xs ≡ false → Contains xs x → test x ≡ false
any_false test xs x e h = by (test x) refl
  where
    by : (b : Bool) → test x ≡ b → b ≡ false
    by true is = sym (any_true test xs x h is) ∙ e
    by false is = refl
