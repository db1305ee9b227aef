-- Lists.
use Rattle.std.proofs.Common.{◌≡◌, ℕ, suc, ◌+◌, ◌<◌, ◌≤◌, Bool, true, false, List, [], ◌∷◌, ◌++◌, length, map, take, get_or, refl, sym, ◌∙◌, ap, subst, ◌⊎◌, inl, inr, arith, length-take, add-one, Option, Some}
use Rattle.std.specs.Prelude.{◌||◌}
use Rattle.std.specs.List.{Contains, enumerate_from, list_any}
use Rattle.std.proofs.lemmas.Option.{slice_get_read}
use Rattle.std.proofs.lemmas.List.{take_more}
use Rattle.ground_form.specs.Programs.{numbered}
use Rattle.theory_build.proofs.AscendingLemmas.{contains_here, contains_there, contains_cases, contains_nothing}

or_first : (a b : Bool) → a ≡ true → a || b ≡ true
or_first true b h = refl
or_first false b h = cc

or_second : (a b : Bool) → b ≡ true → a || b ≡ true
or_second true b h = refl
or_second false b h = h

or_cases : (a b : Bool) → a || b ≡ true → (a ≡ true) ⊎ (b ≡ true)
or_cases true b h = inl refl
or_cases false b h = inr h

-- one item more, behind the others
pub enumerate_push : {A : Type 0} (n : ℕ) (xs : List A) (x : A) → enumerate_from n (xs ++ x ∷ []) ≡ enumerate_from n xs ++ (n + length xs, x) ∷ []
enumerate_push n [] x = let e : n + 0 ≡ n = omega arith in ap (λ k. (k, x) ∷ []) (sym e)
enumerate_push n (y ∷ xs) x =
    let e : n + 1 + length xs ≡ n + length (y ∷ xs) = omega arith in
    ap (λ es. (n, y) ∷ es) (enumerate_push (n + 1) xs x ∙ ap (λ k. enumerate_from (n + 1) xs ++ (k, x) ∷ []) e)

pub enumerate_more : {A : Type 0} (n : ℕ) (xs : List A) (i : ℕ) (x : A) → i < length xs → x ≡ get_or xs i x → enumerate_from n (take (i + 1) xs) ≡ enumerate_from n (take i xs) ++ (n + i, x) ∷ []
enumerate_more n xs i x within at =
    let e : n + length (take i xs) ≡ n + i = let m = length-take i xs in omega arith in
    ap (enumerate_from n) (take_more xs i x within ∙ ap (λ y. take i xs ++ y ∷ []) (sym at))
    ∙ enumerate_push n (take i xs) x
    ∙ ap (λ k. enumerate_from n (take i xs) ++ (k, x) ∷ []) e

-- the item of a number
pub numbered_at : {A : Type 0} (xs : List A) (k : ℕ) (x : A) → k < length xs → x ≡ get_or xs k x → numbered xs (k + 1) ≡ Some x
numbered_at xs k x within at = rw (add-one k) (slice_get_read xs (length xs) k x refl within at)

-- ---- members

pub map_contains : {A B : Type 0} (f : A → B) (xs : List A) (x : A) → Contains xs x → Contains (map f xs) (f x)
map_contains f [] x h = absurd (contains_nothing x h)
map_contains f (y ∷ xs) x h =
    elim (contains_cases y x xs h) [
      | inl first ↦ subst (λ z. Contains (f y ∷ map f xs) (f z)) (sym first) (contains_here (f y) (map f xs))
      | inr later ↦ contains_there (f y) (f x) (map f xs) (map_contains f xs x later)
    ]

pub contains_map : {A B : Type 0} (f : A → B) (xs : List A) (y : B) → Contains (map f xs) y → (x : A) × Contains xs x × (y ≡ f x)
contains_map f [] y h = absurd (contains_nothing y h)
contains_map f (x ∷ xs) y h =
    elim (contains_cases (f x) y (map f xs) h) [
      | inl first ↦ (x, contains_here x xs, first)
      | inr later ↦ let (z, has, is) = contains_map f xs y later in (z, contains_there x z xs has, is)
    ]

pub any_contains : {A : Type 0} (test : A → Bool) (xs : List A) (x : A) → Contains xs x → test x ≡ true → list_any test xs ≡ true
any_contains test [] x h passes = absurd (contains_nothing x h)
any_contains test (y ∷ xs) x h passes =
    elim (contains_cases y x xs h) [
      | inl first ↦ or_first (test y) (list_any test xs) (ap test (sym first) ∙ passes)
      | inr later ↦ or_second (test y) (list_any test xs) (any_contains test xs x later passes)
    ]

pub contains_any : {A : Type 0} (test : A → Bool) (xs : List A) → list_any test xs ≡ true → (x : A) × Contains xs x × (test x ≡ true)
contains_any test [] h = cc
contains_any test (y ∷ xs) h =
    elim (or_cases (test y) (list_any test xs) h) [
      | inl first ↦ (y, contains_here y xs, first)
      | inr later ↦ let (x, has, passes) = contains_any test xs later in (x, contains_there y x xs has, passes)
    ]
