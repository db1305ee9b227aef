-- An ascending list is the one with its members: what has the same members is the same list.
use Rattle.std.proofs.Common.{◌≡◌, ◌↔◌, ◌⊎◌, inl, inr, ℕ, zero, suc, ◌<◌, List, [], ◌∷◌, length, get_or, sym, ◌∙◌, subst, ap, refl, arith}
use Rattle.std.specs.List.{All, Contains}
use Rattle.std.specs.List.Sorted.{IsStrictlySortedBy}
use Rattle.std.specs.Cmp.{IsTotalOrder, tied_itself}
use Rattle.std.specs.Ordering.{ordering_reverse}
use Rattle.std.specs.declared.cmp.Ordering.{Ordering}
use Rattle.std.specs.declared.cmp.Ordering.TheVariants.{Less, Equal, Greater}
use Rattle.std.proofs.lemmas.List.Elements.{All-nil, All-contains, Contains-get_or, recursion_from_All}
use Rattle.std.proofs.lemmas.Map.Keys.{sorted_tail}
use Rattle.std.proofs.lemmas.Map.Views.{All-after_first}
use Rattle.theory_build.specs.Ascending.{ascending, insert_in, by_order}
pub use Rattle.theory_build.specs.Ascending.{SameMembers}

-- ---- members

pub contains_here : {A : Type 0} (x : A) (xs : List A) → Contains (x ∷ xs) x
contains_here x xs = (0, omega arith, refl)

pub contains_there : {A : Type 0} (x y : A) (xs : List A) → Contains xs y → Contains (x ∷ xs) y
contains_there x y xs (k, within, at) = (suc k, omega arith, at)

pub contains_cases : {A : Type 0} (x y : A) (xs : List A) → Contains (x ∷ xs) y → (y ≡ x) ⊎ Contains xs y
contains_cases x y xs (zero, within, at) = inl (sym at)
contains_cases x y xs (suc k, within, at) = inr (k, omega arith, at)

pub contains_nothing : {A : Type 0} (y : A) → Contains [] y → ⊥
contains_nothing y (k, within, at) = omega arith

-- an order that tells any two apart
pub record IsOrder {A : Type 0} (cmp : A → A → Ordering) : Type 0 where
  pub total : IsTotalOrder cmp
  pub same : (x y : A) → cmp x y ≡ Equal → x ≡ y

module _ {A : Type 0} {cmp : A → A → Ordering} (o : IsOrder cmp) where
  not_less : (x : A) → cmp x x ≡ Less → ⊥
  not_less x h = let e = tied_itself o.total x in cc

  turned : (x y : A) → cmp x y ≡ Greater → cmp y x ≡ Less
  turned x y h = o.total.antisymm y x ∙ ap ordering_reverse h

  pub strict_cons : (x : A) (xs : List A) → All (λ y. cmp x y ≡ Less) xs → IsStrictlySortedBy cmp xs → IsStrictlySortedBy cmp (x ∷ xs)
  unfolding IsStrictlySortedBy
  strict_cons x xs all strict = (recursion_from_All (λ y. cmp x y ≡ Less) xs all, strict)

  pub strict_after : (x y : A) (xs : List A) → IsStrictlySortedBy cmp (x ∷ xs) → Contains xs y → cmp x y ≡ Less
  strict_after x y xs strict has = All-contains (λ z. cmp x z ≡ Less) xs y (All-after_first cmp x xs strict) has

  -- a member of the rest of a strictly ascending list is not its head
  apart : (x y : A) (xs : List A) → IsStrictlySortedBy cmp (x ∷ xs) → Contains xs y → y ≡ x → ⊥
  apart x y xs strict has e = not_less x (subst (λ z. cmp x z ≡ Less) e (strict_after x y xs strict has))

  first_same : (x y : A) (xs ys : List A) → IsStrictlySortedBy cmp (x ∷ xs) → IsStrictlySortedBy cmp (y ∷ ys) → (x ≡ y) ⊎ Contains ys x → (y ≡ x) ⊎ Contains xs y → x ≡ y
  first_same x y xs ys sx sy (inl e) q = e
  first_same x y xs ys sx sy (inr p) (inl e) = sym e
  first_same x y xs ys sx sy (inr p) (inr q) =
      absurd (not_less x (o.total.trans x y x (strict_after x y xs sx q) (strict_after y x ys sy p)))

  -- the rest has no member more than the other's rest
  rest_there : (x y z : A) (xs ys : List A) → IsStrictlySortedBy cmp (x ∷ xs) → x ≡ y → (Contains (x ∷ xs) z → Contains (y ∷ ys) z) → Contains xs z → Contains ys z
  rest_there x y z xs ys strict e there has =
      elim (contains_cases y z ys (there (contains_there x z xs has))) [
        | inl first ↦ absurd (apart x z xs strict has (first ∙ sym e))
        | inr rest ↦ rest
      ]

  pub strict_unique : (xs ys : List A) → IsStrictlySortedBy cmp xs → IsStrictlySortedBy cmp ys → SameMembers xs ys → xs ≡ ys
  strict_unique [] [] sx sy m = refl
  strict_unique [] (y ∷ ys) sx sy m = absurd (contains_nothing y (m.back y (contains_here y ys)))
  strict_unique (x ∷ xs) [] sx sy m = absurd (contains_nothing x (m.there x (contains_here x xs)))
  strict_unique (x ∷ xs) (y ∷ ys) sx sy m =
      let e : x ≡ y =
      first_same x y xs ys sx sy (contains_cases y x ys (m.there x (contains_here x xs))) (contains_cases x y xs (m.back y (contains_here y ys)))
      in
      let rest : SameMembers xs ys = record {
        there = λ z. rest_there x y z xs ys sx e (m.there z);
        back = λ z. rest_there y x z ys xs sy (sym e) (m.back z);
      } in
      let same_rest = strict_unique xs ys (sorted_tail cmp x xs sx) (sorted_tail cmp y ys sy) rest in
      cc

  -- ---- what `ascending` gives

  insert_back_by : (x y z : A) (ys : List A) (r : Ordering) → (Contains (insert_in cmp x ys) z → (z ≡ x) ⊎ Contains ys z) → Contains (by_order r (x ∷ y ∷ ys) (y ∷ ys) (y ∷ insert_in cmp x ys)) z → (z ≡ x) ⊎ Contains (y ∷ ys) z
  insert_back_by x y z ys Less rest h = contains_cases x z (y ∷ ys) h
  insert_back_by x y z ys Equal rest h = inr h
  insert_back_by x y z ys Greater rest h =
      elim (contains_cases y z (insert_in cmp x ys) h) [
        | inl first ↦ inr (subst (λ w. Contains (y ∷ ys) w) (sym first) (contains_here y ys))
        | inr later ↦ elim (rest later) [ inl new ↦ inl new | inr old ↦ inr (contains_there y z ys old) ]
      ]

  insert_back : (x z : A) (ys : List A) → Contains (insert_in cmp x ys) z → (z ≡ x) ⊎ Contains ys z
  insert_back x z [] h = contains_cases x z [] h
  insert_back x z (y ∷ ys) h = insert_back_by x y z ys (cmp x y) (insert_back x z ys) h

  insert_new_by : (x y : A) (ys : List A) (r : Ordering) → cmp x y ≡ r → Contains (insert_in cmp x ys) x → Contains (by_order r (x ∷ y ∷ ys) (y ∷ ys) (y ∷ insert_in cmp x ys)) x
  insert_new_by x y ys Less e rest = contains_here x (y ∷ ys)
  insert_new_by x y ys Equal e rest = subst (λ w. Contains (y ∷ ys) w) (sym (o.same x y e)) (contains_here y ys)
  insert_new_by x y ys Greater e rest = contains_there y x (insert_in cmp x ys) rest

  insert_new : (x : A) (ys : List A) → Contains (insert_in cmp x ys) x
  insert_new x [] = contains_here x []
  insert_new x (y ∷ ys) = insert_new_by x y ys (cmp x y) refl (insert_new x ys)

  insert_old_by : (x y z : A) (ys : List A) (r : Ordering) → (Contains ys z → Contains (insert_in cmp x ys) z) → Contains (y ∷ ys) z → Contains (by_order r (x ∷ y ∷ ys) (y ∷ ys) (y ∷ insert_in cmp x ys)) z
  insert_old_by x y z ys Less rest h = contains_there x z (y ∷ ys) h
  insert_old_by x y z ys Equal rest h = h
  insert_old_by x y z ys Greater rest h =
      elim (contains_cases y z ys h) [
        | inl first ↦ subst (λ w. Contains (y ∷ insert_in cmp x ys) w) (sym first) (contains_here y (insert_in cmp x ys))
        | inr later ↦ contains_there y z (insert_in cmp x ys) (rest later)
      ]

  insert_old : (x z : A) (ys : List A) → Contains ys z → Contains (insert_in cmp x ys) z
  insert_old x z [] h = absurd (contains_nothing z h)
  insert_old x z (y ∷ ys) h = insert_old_by x y z ys (cmp x y) (insert_old x z ys) h

  -- a member is below all of a list
  below_all : (x : A) (ys : List A) → ((z : A) → Contains ys z → cmp x z ≡ Less) → All (λ z. cmp x z ≡ Less) ys
  below_all x ys below = λ k d within. below (get_or ys k d) (Contains-get_or ys k d within)

  insert_strict_by : (x y : A) (ys : List A) (r : Ordering) → cmp x y ≡ r → IsStrictlySortedBy cmp (y ∷ ys) → IsStrictlySortedBy cmp (insert_in cmp x ys) → IsStrictlySortedBy cmp (by_order r (x ∷ y ∷ ys) (y ∷ ys) (y ∷ insert_in cmp x ys))
  insert_strict_by x y ys Less e old new =
      strict_cons x (y ∷ ys)
      (below_all x (y ∷ ys) (λ z h. elim (contains_cases y z ys h) [
        | inl first ↦ subst (λ w. cmp x w ≡ Less) (sym first) e
        | inr later ↦ o.total.trans x y z e (strict_after y z ys old later)
      ]))
      old
  insert_strict_by x y ys Equal e old new = old
  insert_strict_by x y ys Greater e old new =
      strict_cons y (insert_in cmp x ys)
      (below_all y (insert_in cmp x ys) (λ z h. elim (insert_back x z ys h) [
        | inl first ↦ subst (λ w. cmp y w ≡ Less) (sym first) (turned x y e)
        | inr later ↦ strict_after y z ys old later
      ]))
      new

  insert_strict : (x : A) (ys : List A) → IsStrictlySortedBy cmp ys → IsStrictlySortedBy cmp (insert_in cmp x ys)
  insert_strict x [] h = strict_cons x [] (All-nil (λ y. cmp x y ≡ Less)) h
  insert_strict x (y ∷ ys) h = insert_strict_by x y ys (cmp x y) refl h (insert_strict x ys (sorted_tail cmp y ys h))

  -- the list is strictly ascending
  pub ascending_strict : (xs : List A) → IsStrictlySortedBy cmp (ascending cmp xs)
  unfolding ascending IsStrictlySortedBy
  ascending_strict [] = tt
  ascending_strict (x ∷ xs) = insert_strict x (ascending cmp xs) (ascending_strict xs)

  ascending_there : (xs : List A) (z : A) → Contains xs z → Contains (ascending cmp xs) z
  unfolding ascending
  ascending_there [] z h = h
  ascending_there (x ∷ xs) z h =
      elim (contains_cases x z xs h) [
        | inl first ↦ subst (λ w. Contains (insert_in cmp x (ascending cmp xs)) w) (sym first) (insert_new x (ascending cmp xs))
        | inr later ↦ insert_old x z (ascending cmp xs) (ascending_there xs z later)
      ]

  ascending_back : (xs : List A) (z : A) → Contains (ascending cmp xs) z → Contains xs z
  unfolding ascending
  ascending_back [] z h = h
  ascending_back (x ∷ xs) z h =
      elim (insert_back x z (ascending cmp xs) h) [
        | inl first ↦ subst (λ w. Contains (x ∷ xs) w) (sym first) (contains_here x xs)
        | inr later ↦ contains_there x z xs (ascending_back xs z later)
      ]

  -- it has the members of the list
  pub ascending_members : (xs : List A) → SameMembers xs (ascending cmp xs)
  ascending_members xs = record { there = ascending_there xs; back = ascending_back xs }

  -- a strictly ascending list with the members of xs is `ascending cmp xs`
  pub ascending_unique : (c xs : List A) → IsStrictlySortedBy cmp c → SameMembers c xs → c ≡ ascending cmp xs
  ascending_unique c xs strict m =
      strict_unique c (ascending cmp xs) strict (ascending_strict xs) (record {
        there = λ z h. ascending_there xs z (m.there z h);
        back = λ z h. m.back z (ascending_back xs z h);
      })

  -- it depends on the members alone
  pub ascending_same : (xs ys : List A) → SameMembers xs ys → ascending cmp xs ≡ ascending cmp ys
  ascending_same xs ys m =
      ascending_unique (ascending cmp xs) ys (ascending_strict xs) (record {
        there = λ z h. m.there z (ascending_back xs z h);
        back = λ z h. ascending_there xs z (m.back z h);
      })
