-- What an ascending list has in common with the list that it is made of.
use Rattle.std.proofs.Common.{◌≡◌, zero, suc, Bool, true, false, ◌||◌, List, [], ◌∷◌, ◌++◌, map, refl, sym, ap, ◌∙◌, subst, Option, Some, None, ⊎_elim, inl, inr, arith}
use Rattle.std.specs.Prelude.{◌⊎◌, All, filter, cond}
use Rattle.std.specs.List.{list_all, list_any, filter_map, cons_option, Contains}
use Rattle.std.specs.declared.cmp.Ordering.{Ordering}
use Rattle.std.proofs.lemmas.Bool.{and_parts, and_from, false≢true}
use Rattle.theory_build.specs.Ascending.{ascending}
use Rattle.theory_build.proofs.AscendingLemmas.{IsOrder, ascending_members}

pub same_truth : (p q : Bool) → (p ≡ true → q ≡ true) → (q ≡ true → p ≡ true) → p ≡ q
same_truth true q h k = sym (h refl)
same_truth false true h k = k refl
same_truth false false h k = refl

-- ---- one of the members, by recursion

abbrev pub In : {A : Type 0} → A → List A → Type 0
In x [] = ⊥
In x (y ∷ ys) = (x ≡ y) ⊎ In x ys

pub in_from_Contains : {A : Type 0} (x : A) (xs : List A) → Contains xs x → In x xs
in_from_Contains x [] (k, lt, e) = absurd (omega arith)
in_from_Contains x (y ∷ ys) (zero, lt, e) = inl (sym e)
in_from_Contains x (y ∷ ys) (suc k, lt, e) = inr (in_from_Contains x ys (k, omega arith, e))

pub Contains_from_in : {A : Type 0} (x : A) (xs : List A) → In x xs → Contains xs x
Contains_from_in x [] h = absurd h
Contains_from_in x (y ∷ ys) (inl e) = (zero, omega arith, sym e)
Contains_from_in x (y ∷ ys) (inr h) = let rest = Contains_from_in x ys h in (suc rest.0, omega arith, rest.2)

pub in_append : {A : Type 0} (x : A) (xs ys : List A) → In x (xs ++ ys) → In x xs ⊎ In x ys
in_append x [] ys h = inr h
in_append x (z ∷ xs) ys (inl e) = inl (inl e)
in_append x (z ∷ xs) ys (inr h) = ⊎_elim (λ (l : In x xs). inl (inr l)) (λ (r : In x ys). inr r) (in_append x xs ys h)

pub in_left : {A : Type 0} (x : A) (xs ys : List A) → In x xs → In x (xs ++ ys)
in_left x [] ys h = absurd h
in_left x (z ∷ xs) ys (inl e) = inl e
in_left x (z ∷ xs) ys (inr h) = inr (in_left x xs ys h)

pub in_right : {A : Type 0} (x : A) (xs ys : List A) → In x ys → In x (xs ++ ys)
in_right x [] ys h = h
in_right x (z ∷ xs) ys h = inr (in_right x xs ys h)

pub in_map : {A B : Type 0} (h : A → B) (y : B) (xs : List A) → In y (map h xs) → (x : A) × In x xs × (y ≡ h x)
in_map h y [] i = absurd i
in_map h y (x ∷ xs) (inl e) = (x, inl refl, e)
in_map h y (x ∷ xs) (inr i) = let rest = in_map h y xs i in (rest.0, inr rest.1, rest.2)

pub mapped_in : {A B : Type 0} (h : A → B) (x : A) (xs : List A) → In x xs → In (h x) (map h xs)
mapped_in h x [] i = absurd i
mapped_in h x (y ∷ xs) (inl e) = inl (ap h e)
mapped_in h x (y ∷ xs) (inr i) = inr (mapped_in h x xs i)

pub in_filter : {A : Type 0} (p : A → Bool) (x : A) (xs : List A) → In x (filter p xs) → In x xs × (p x ≡ true)
in_filter p x [] i = absurd i
in_filter p x (y ∷ xs) i = go (p y) refl (in_filter p x xs) i
  where
    go : (b : Bool) → p y ≡ b → (In x (filter p xs) → In x xs × (p x ≡ true)) → In x (cond b (y ∷ filter p xs) (filter p xs)) → In x (y ∷ xs) × (p x ≡ true)
    go true e more (inl s) = (inl s, ap p s ∙ e)
    go true e more (inr r) = let rest = more r in (inr rest.0, rest.1)
    go false e more r = let rest = more r in (inr rest.0, rest.1)

pub filtered_in : {A : Type 0} (p : A → Bool) (x : A) (xs : List A) → In x xs → p x ≡ true → In x (filter p xs)
filtered_in p x [] i t = absurd i
filtered_in p x (y ∷ xs) i t = go (p y) refl (λ r. filtered_in p x xs r t) i
  where
    go : (b : Bool) → p y ≡ b → (In x xs → In x (filter p xs)) → In x (y ∷ xs) → In x (cond b (y ∷ filter p xs) (filter p xs))
    go true e more (inl s) = inl s
    go true e more (inr r) = inr (more r)
    go false e more (inl s) = absurd (false≢true (sym e ∙ (ap p (sym s) ∙ t)))
    go false e more (inr r) = more r

pub in_filter_map : {A B : Type 0} (h : A → Option B) (y : B) (xs : List A) → In y (filter_map h xs) → (x : A) × In x xs × (h x ≡ Some y)
in_filter_map h y [] i = absurd i
in_filter_map {A = A} {B = B} h y (x ∷ xs) i = go (h x) refl (in_filter_map h y xs) i
  where
    go : (o : Option B) → h x ≡ o → (In y (filter_map h xs) → (z : A) × In z xs × (h z ≡ Some y)) → In y (cons_option o (filter_map h xs)) → (z : A) × In z (x ∷ xs) × (h z ≡ Some y)
    go None e more r = let rest = more r in (rest.0, inr rest.1, rest.2)
    go (Some b) e more (inl s) = (x, inl refl, e ∙ ap Some (sym s))
    go (Some b) e more (inr r) = let rest = more r in (rest.0, inr rest.1, rest.2)

pub filter_mapped_in : {A B : Type 0} (h : A → Option B) (x : A) (y : B) (xs : List A) → In x xs → h x ≡ Some y → In y (filter_map h xs)
filter_mapped_in {B = B} h x y [] i e = absurd i
filter_mapped_in {B = B} h x y (z ∷ xs) (inl s) e = subst (λ o. In y (cons_option o (filter_map h xs))) (sym e ∙ ap h s) (inl refl)
filter_mapped_in {B = B} h x y (z ∷ xs) (inr r) e = go (h z) (filter_mapped_in h x y xs r e)
  where
    go : (o : Option B) → In y (filter_map h xs) → In y (cons_option o (filter_map h xs))
    go None i = i
    go (Some b) i = inr i

-- a test that a member passes
pub any_in : {A : Type 0} (p : A → Bool) (x : A) (xs : List A) → In x xs → p x ≡ true → list_any p xs ≡ true
any_in p x [] i t = absurd i
any_in p x (y ∷ ys) (inl e) t = ap (λ b. b || list_any p ys) (ap p (sym e) ∙ t)
any_in p x (y ∷ ys) (inr i) t = ap (λ b. p y || b) (any_in p x ys i t) ∙ or_true (p y)
  where
    or_true : (b : Bool) → (b || true) ≡ true
    or_true true = refl
    or_true false = refl

pub in_any : {A : Type 0} (p : A → Bool) (xs : List A) → list_any p xs ≡ true → (x : A) × In x xs × (p x ≡ true)
in_any p [] t = absurd (false≢true t)
in_any {A = A} p (y ∷ ys) t = go (p y) refl (in_any p ys) t
  where
    go : (b : Bool) → p y ≡ b → (list_any p ys ≡ true → (x : A) × In x ys × (p x ≡ true)) → (b || list_any p ys) ≡ true → (x : A) × In x (y ∷ ys) × (p x ≡ true)
    go true e more h = (y, inl refl, e)
    go false e more h = let rest = more h in (rest.0, inr rest.1, rest.2)

pub all_in : {A : Type 0} (p : A → Bool) (xs : List A) → list_all p xs ≡ true → (x : A) → In x xs → p x ≡ true
all_in p [] t x i = absurd i
all_in p (y ∷ ys) t x (inl e) = ap p e ∙ (and_parts (p y) (list_all p ys) t).0
all_in p (y ∷ ys) t x (inr i) = all_in p ys (and_parts (p y) (list_all p ys) t).1 x i

pub in_all : {A : Type 0} (p : A → Bool) (xs : List A) → ((x : A) → In x xs → p x ≡ true) → list_all p xs ≡ true
in_all p [] h = refl
in_all p (y ∷ ys) h = and_from (p y) (list_all p ys) (h y (inl refl)) (in_all p ys (λ x i. h x (inr i)))

-- what holds of all holds of a member
pub All-in : {X : Type 0} (P : X → Type 0) (xs : List X) → All P xs → (x : X) → In x xs → P x
All-in P xs h x i = let has = Contains_from_in x xs i in subst P has.2 (h has.0 x has.1)

-- tests that agree on the members
pub any_same : {A : Type 0} (p q : A → Bool) (xs : List A) → ((x : A) → In x xs → p x ≡ q x) → list_any p xs ≡ list_any q xs
any_same p q [] h = refl
any_same p q (x ∷ xs) h = rw (h x (inl refl), any_same p q xs (λ y i. h y (inr i))) refl

-- ---- an ascending list has the members of the list that it is made of

module _ {A : Type 0} {cmp : A → A → Ordering} (o : IsOrder cmp) where
  pub in_ascending : (z : A) (xs : List A) → In z (ascending cmp xs) → In z xs
  in_ascending z xs i = in_from_Contains z xs ((ascending_members o xs).back z (Contains_from_in z (ascending cmp xs) i))

  pub ascended_in : (z : A) (xs : List A) → In z xs → In z (ascending cmp xs)
  ascended_in z xs i = in_from_Contains z (ascending cmp xs) ((ascending_members o xs).there z (Contains_from_in z xs i))

  pub any_ascending : (p : A → Bool) (xs : List A) → list_any p (ascending cmp xs) ≡ list_any p xs
  any_ascending p xs = same_truth (list_any p (ascending cmp xs)) (list_any p xs)
      (λ t. let some = in_any p (ascending cmp xs) t in any_in p some.0 xs (in_ascending some.0 xs some.1) some.2)
      (λ t. let some = in_any p xs t in any_in p some.0 (ascending cmp xs) (ascended_in some.0 xs some.1) some.2)

  pub all_ascending : (p : A → Bool) (xs : List A) → list_all p (ascending cmp xs) ≡ list_all p xs
  all_ascending p xs = same_truth (list_all p (ascending cmp xs)) (list_all p xs)
      (λ t. in_all p xs (λ z i. all_in p (ascending cmp xs) t z (ascended_in z xs i)))
      (λ t. in_all p (ascending cmp xs) (λ z i. all_in p xs t z (in_ascending z xs i)))
