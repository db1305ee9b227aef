-- What holds of each member, and order, under `++` and `map`.
use Rattle.std.proofs.Common.{◌≡◌, zero, suc, Bool, false, List, [], ◌∷◌, ◌++◌, map, refl, ap, ◌∙◌, arith, inl, inr}
use Rattle.std.specs.Prelude.{Contains, IsTrue, ◌⊎◌}
use Rattle.std.specs.List.{AllByRecursion, list_all, list_any}
use Rattle.std.specs.List.Sorted.{IsStrictlySortedBy}
use Rattle.std.specs.declared.cmp.Ordering.{Ordering}
use Rattle.std.specs.declared.cmp.Ordering.TheVariants.{Less}
use Rattle.std.proofs.lemmas.Bool.{and_from, and_parts, or_parts}
use Rattle.std.proofs.lemmas.List.{get_or-map, length-map}

module _ {A : Type 0} where
  pub each-weaker : (P Q : A → Type 0) → ((x : A) → P x → Q x) → (xs : List A) → AllByRecursion P xs → AllByRecursion Q xs
  each-weaker P Q f [] h = tt
  each-weaker P Q f (x ∷ xs) h = (f x h.0, each-weaker P Q f xs h.1)

  pub each-always : (P : A → Type 0) → ((x : A) → P x) → (xs : List A) → AllByRecursion P xs
  each-always P f [] = tt
  each-always P f (x ∷ xs) = (f x, each-always P f xs)

  pub each-append : (P : A → Type 0) (xs ys : List A) → AllByRecursion P xs → AllByRecursion P ys → AllByRecursion P (xs ++ ys)
  each-append P [] ys h k = k
  each-append P (x ∷ xs) ys h k = (h.0, each-append P xs ys h.1 k)

  pub each-map : {B : Type 0} (P : A → Type 0) (f : B → A) (ys : List B) → AllByRecursion (λ y. P (f y)) ys → AllByRecursion P (map f ys)
  each-map P f [] h = tt
  each-map P f (y ∷ ys) h = (h.0, each-map P f ys h.1)

  pub each-none : (test : A → Bool) (xs : List A) → list_any test xs ≡ false → AllByRecursion (λ x. test x ≡ false) xs
  each-none test [] h = tt
  each-none test (x ∷ xs) h = let parts = or_parts (test x) (list_any test xs) h in (parts.0, each-none test xs parts.1)

  pub list_all-weaker : (p q : A → Bool) → ((x : A) → IsTrue (p x) → IsTrue (q x)) → (xs : List A) → IsTrue (list_all p xs) → IsTrue (list_all q xs)
  list_all-weaker p q f [] h = refl
  list_all-weaker p q f (x ∷ xs) h = let parts = and_parts (p x) (list_all p xs) h in and_from (q x) (list_all q xs) (f x parts.0) (list_all-weaker p q f xs parts.1)

  pub IsStrictlySortedBy-append : (cmp : A → A → Ordering) (xs ys : List A) → IsStrictlySortedBy cmp xs → IsStrictlySortedBy cmp ys → AllByRecursion (λ x. AllByRecursion (λ y. cmp x y ≡ Less) ys) xs → IsStrictlySortedBy cmp (xs ++ ys)
  unfolding IsStrictlySortedBy
  IsStrictlySortedBy-append cmp [] ys s t below = t
  IsStrictlySortedBy-append cmp (x ∷ xs) ys s t below =
      (each-append (λ y. cmp x y ≡ Less) xs ys s.0 below.0, IsStrictlySortedBy-append cmp xs ys s.1 t below.1)

  pub Contains-here : (x : A) (xs : List A) → Contains (x ∷ xs) x
  Contains-here x xs = (0, omega arith, refl)

  pub Contains-later : (x y : A) (xs : List A) → Contains xs x → Contains (y ∷ xs) x
  Contains-later x y xs c = (suc c.0, omega arith, c.2)

  pub Contains-cases : (x y : A) (xs : List A) → Contains (y ∷ xs) x → (y ≡ x) ⊎ Contains xs x
  Contains-cases x y xs (zero, lt, e) = inl e
  Contains-cases x y xs (suc k, lt, e) = inr (k, omega arith, e)

  pub Contains-map : {B : Type 0} (f : B → A) (y : B) (ys : List B) → Contains ys y → Contains (map f ys) (f y)
  Contains-map f y ys c = (c.0, rw length-map c.1, get_or-map f ys c.0 y (f y) c.1 ∙ ap f c.2)

pub IsStrictlySortedBy-map : {A B : Type 0} (cmp : A → A → Ordering) (less : B → B → Ordering) (f : B → A) → ((x y : B) → less x y ≡ Less → cmp (f x) (f y) ≡ Less) → (ys : List B) → IsStrictlySortedBy less ys → IsStrictlySortedBy cmp (map f ys)
unfolding IsStrictlySortedBy
IsStrictlySortedBy-map cmp less f keeps [] s = tt
IsStrictlySortedBy-map cmp less f keeps (y ∷ ys) s =
    (each-map (λ x. cmp (f y) x ≡ Less) f ys (each-weaker (λ z. less y z ≡ Less) (λ z. cmp (f y) (f z) ≡ Less) (keeps y) ys s.0), IsStrictlySortedBy-map cmp less f keeps ys s.1)
