-- Tests of lists, and lists that are counted from 1.
use Rattle.std.proofs.Common.{◌≡◌, ℕ, zero, suc, ◌+◌, ◌<◌, ◌≤◌, Bool, true, false, not, ◌&&◌, ◌||◌, List, [], ◌∷◌, map, length, get_or, refl, sym, ap, ◌∙◌, arith, Option, Some, None}
use Rattle.std.specs.Prelude.{All, IsTrue, Contains, slice_get}
use Rattle.std.specs.List.{list_all, list_any}
use Rattle.std.proofs.lemmas.Bool.{false≢true}
use Rattle.std.proofs.lemmas.List.Elements.{All-head, All-tail}
use Rattle.ground_form.specs.Programs.{numbered}

pub and_assoc : (a b c : Bool) → (a && (b && c)) ≡ ((a && b) && c)
and_assoc true b c = refl
and_assoc false b c = refl

pub and_true : (a : Bool) → a ≡ (a && true)
and_true true = refl
and_true false = refl

pub or_from : (b c : Bool) → (b ≡ true → c ≡ true) → (not b || c) ≡ true
or_from true c h = h refl
or_from false c h = refl

pub or_to : (b c : Bool) → (not b || c) ≡ true → b ≡ true → c ≡ true
or_to true c h t = h
or_to false c h t = absurd (false≢true t)

pub same_by_truth : (p q : Bool) → (p ≡ true → q ≡ true) → (q ≡ true → p ≡ true) → p ≡ q
same_by_truth true true h k = refl
same_by_truth true false h k = sym (h refl)
same_by_truth false true h k = k refl
same_by_truth false false h k = refl

-- tests that agree at each member
pub all_same : {X : Type 0} (f h : X → Bool) (xs : List X) → All (λ x. f x ≡ h x) xs → list_all f xs ≡ list_all h xs
all_same f h [] e = refl
all_same f h (x ∷ xs) e = ap (λ b. b && list_all f xs) (All-head (λ y. f y ≡ h y) x xs e) ∙ ap (λ b. h x && b) (all_same f h xs (All-tail (λ y. f y ≡ h y) x xs e))

pub any_same : {X : Type 0} (f h : X → Bool) (xs : List X) → All (λ x. f x ≡ h x) xs → list_any f xs ≡ list_any h xs
any_same f h [] e = refl
any_same f h (x ∷ xs) e = ap (λ b. b || list_any f xs) (All-head (λ y. f y ≡ h y) x xs e) ∙ ap (λ b. h x || b) (any_same f h xs (All-tail (λ y. f y ≡ h y) x xs e))

pub map_at : {X Y : Type 0} (f : X → Y) (xs : List X) (i : ℕ) (d : X) (e : Y) → i < length xs → get_or (map f xs) i e ≡ f (get_or xs i d)
map_at f [] i d e lt = absurd (omega arith)
map_at f (x ∷ xs) zero d e lt = refl
map_at f (x ∷ xs) (suc i) d e lt = let below : i < length xs = omega arith in map_at f xs i d e below

-- what holds of each member holds of one that is read by its number, if it is there
pub numbered_all : {X : Type 0} (P : X → Type 0) (Q : Option X → Type 0) (xs : List X) (k : ℕ) → Q None → ((x : X) → P x → Q (Some x)) → All P xs → Q (numbered xs k)
numbered_all P Q xs zero none some h = none
numbered_all {X} P Q xs (suc i) none some h = at xs i h
  where
    at : (ys : List X) (j : ℕ) → All P ys → Q (slice_get ys j)
    at [] j a = none
    at (y ∷ ys) zero a = some y (All-head P y ys a)
    at (y ∷ ys) (suc j) a = at ys j (All-tail P y ys a)

pub only_member : (k a : ℕ) → Contains (k ∷ []) a → k ≡ a
only_member k a m = at m.0 m.1 m.2
  where
    at : (j : ℕ) → j < 1 → get_or (k ∷ []) j a ≡ a → k ≡ a
    at zero lt e = e
    at (suc j) lt e = absurd (omega arith)
