-- The sublists of a list in order are in order, and one of them has just the members that a test takes.
use Rattle.std.proofs.Common.{◌≡◌, ℕ, Bool, true, false, ◌&&◌, List, [], ◌∷◌, ◌++◌, map, refl, sym, ap, ◌∙◌, subst, ⊎_elim}
use Rattle.std.proofs.Math.Path.{fun_ext}
use Rattle.std.specs.Prelude.{Contains, filter}
use Rattle.std.specs.Cmp.{IsTotalOrder}
use Rattle.std.specs.Cmp.Lexicographic.{nat_list_eq_equiv, slice_cmp}
use Rattle.std.specs.List.{AllByRecursion}
use Rattle.std.specs.List.Sorted.{IsStrictlySortedBy}
use Rattle.std.specs.Ordering.{ordering_then}
use Rattle.std.specs.declared.cmp.Ordering.{Ordering}
use Rattle.std.specs.declared.cmp.Ordering.TheVariants.{Less}
use Rattle.std.proofs.lemmas.Bool.{cases_Bool, cond-true, cond-false}
use Rattle.std.proofs.lemmas.Cmp.{tied_itself}
use Rattle.std.proofs.lemmas.List.Elements.{Contains-append_left, Contains-append_right}
use Rattle.std.proofs.lemmas.Map.Made.{is_member-filter}
use Rattle.std.proofs.lemmas.Slice.Eq.{bytes_eq-Decides}
use Rattle.ap_eval.specs.AtomSets.{AtomSet, has, IsSubset}
use Rattle.small_optima.specs.Sublists.{nonempty_sublists, sublists}
use Rattle.small_optima.proofs.Lists.{each-weaker, each-always, each-append, each-map, IsStrictlySortedBy-append, IsStrictlySortedBy-map, Contains-here, Contains-later, Contains-cases, Contains-map}
use Rattle.small_optima.proofs.Names.{has-is_member}

-- ---- order

module _ {A : Type 0} (cmp : A → A → Ordering) where
  -- what holds of each member holds of each member of each sublist
  each_member : (P : A → Type 0) (xs : List A) → AllByRecursion P xs → AllByRecursion (AllByRecursion P) (nonempty_sublists xs)
  each_member P [] h = tt
  each_member P (x ∷ xs) h =
      let later = each_member P xs h.1 in (
        (h.0, tt),
        each-append (AllByRecursion P) (map (λ ys. x ∷ ys) (nonempty_sublists xs)) (nonempty_sublists xs)
            (each-map (AllByRecursion P) (λ ys. x ∷ ys) (nonempty_sublists xs) (each-weaker (AllByRecursion P) (λ ys. AllByRecursion P (x ∷ ys)) (λ ys each. (h.0, each)) (nonempty_sublists xs) later)) later,
      )

  each_sorted_from : (xs : List A) → IsStrictlySortedBy cmp xs → AllByRecursion (IsStrictlySortedBy cmp) (nonempty_sublists xs)
  unfolding IsStrictlySortedBy
  each_sorted_from [] s = tt
  each_sorted_from (x ∷ xs) s =
      let later = each_sorted_from xs s.1 in (
        (tt, tt),
        each-append (IsStrictlySortedBy cmp) (map (λ ys. x ∷ ys) (nonempty_sublists xs)) (nonempty_sublists xs)
            (each-map (IsStrictlySortedBy cmp) (λ ys. x ∷ ys) (nonempty_sublists xs) (joined (nonempty_sublists xs) (each_member (λ y. cmp x y ≡ Less) xs s.0) later)) later,
      )
    where
      joined : (yss : List (List A)) → AllByRecursion (AllByRecursion (λ y. cmp x y ≡ Less)) yss → AllByRecursion (IsStrictlySortedBy cmp) yss → AllByRecursion (λ ys. IsStrictlySortedBy cmp (x ∷ ys)) yss
      joined [] h k = tt
      joined (ys ∷ yss) h k = ((h.0, k.0), joined yss h.1 k.1)

  -- each sublist of a list in order is in order
  pub each_sorted : (xs : List A) → IsStrictlySortedBy cmp xs → AllByRecursion (IsStrictlySortedBy cmp) (sublists xs)
  unfolding IsStrictlySortedBy
  each_sorted xs s = (tt, each_sorted_from xs s)

  after_empty : (xs : List A) → AllByRecursion (λ ys. slice_cmp cmp [] ys ≡ Less) (nonempty_sublists xs)
  after_empty [] = tt
  after_empty (x ∷ xs) = (
    refl,
    each-append (λ ys. slice_cmp cmp [] ys ≡ Less) (map (λ ys. x ∷ ys) (nonempty_sublists xs)) (nonempty_sublists xs)
        (each-map (λ ys. slice_cmp cmp [] ys ≡ Less) (λ ys. x ∷ ys) (nonempty_sublists xs) (each-always (λ ys. slice_cmp cmp [] (x ∷ ys) ≡ Less) (λ ys. refl) (nonempty_sublists xs))) (after_empty xs),
  )

  -- a list that begins with what is below xs is below the sublists of xs
  after_lower : (x : A) (front xs : List A) → AllByRecursion (λ y. cmp x y ≡ Less) xs → AllByRecursion (λ ys. slice_cmp cmp (x ∷ front) ys ≡ Less) (nonempty_sublists xs)
  after_lower x front [] h = tt
  after_lower x front (y ∷ ys) h =
      let lower = λ (more : List A). ap (λ o. ordering_then o (slice_cmp cmp front more)) h.0 in (
        lower [],
        each-append (λ zs. slice_cmp cmp (x ∷ front) zs ≡ Less) (map (λ zs. y ∷ zs) (nonempty_sublists ys)) (nonempty_sublists ys)
            (each-map (λ zs. slice_cmp cmp (x ∷ front) zs ≡ Less) (λ zs. y ∷ zs) (nonempty_sublists ys) (each-always (λ zs. slice_cmp cmp (x ∷ front) (y ∷ zs) ≡ Less) lower (nonempty_sublists ys))) (after_lower x front ys h.1),
      )

  module _ (order : IsTotalOrder cmp) where
    same_first : (x : A) (ys zs : List A) → slice_cmp cmp ys zs ≡ Less → slice_cmp cmp (x ∷ ys) (x ∷ zs) ≡ Less
    same_first x ys zs h = ap (λ o. ordering_then o (slice_cmp cmp ys zs)) (tied_itself order x) ∙ h

    nonempty_in_order : (xs : List A) → IsStrictlySortedBy cmp xs → IsStrictlySortedBy (slice_cmp cmp) (nonempty_sublists xs)
    unfolding IsStrictlySortedBy
    nonempty_in_order [] s = tt
    nonempty_in_order (x ∷ xs) s =
        let later = nonempty_sublists xs in
        let with_x = map (λ ys. x ∷ ys) later in
        let first = each-append (λ ys. slice_cmp cmp (x ∷ []) ys ≡ Less) with_x later
        (each-map (λ ys. slice_cmp cmp (x ∷ []) ys ≡ Less) (λ ys. x ∷ ys) later (each-weaker (λ ys. slice_cmp cmp [] ys ≡ Less) (λ ys. slice_cmp cmp (x ∷ []) (x ∷ ys) ≡ Less) (same_first x []) later (after_empty xs)))
        (after_lower x [] xs s.0) in
        let crossed = each-map (λ zs. AllByRecursion (λ ys. slice_cmp cmp zs ys ≡ Less) later) (λ ys. x ∷ ys) later (each-always (λ zs. AllByRecursion (λ ys. slice_cmp cmp (x ∷ zs) ys ≡ Less) later) (λ zs. after_lower x zs xs s.0) later) in
        let rest = nonempty_in_order xs s.1 in
        (first, IsStrictlySortedBy-append (slice_cmp cmp) with_x later (IsStrictlySortedBy-map (slice_cmp cmp) (slice_cmp cmp) (λ ys. x ∷ ys) (same_first x) later rest) rest crossed)

    -- the sublists of a list in order are in order
    pub sublists_in_order : (xs : List A) → IsStrictlySortedBy cmp xs → IsStrictlySortedBy (slice_cmp cmp) (sublists xs)
    unfolding IsStrictlySortedBy
    sublists_in_order xs s = (after_empty xs, nonempty_in_order xs s)

-- ---- the members that a test takes

with_first : {A : Type 0} (x : A) (xs ys : List A) → Contains (sublists xs) ys → Contains (sublists (x ∷ xs)) (x ∷ ys)
with_first x xs ys c = ⊎_elim
    (λ (e : [] ≡ ys). subst (λ zs. Contains (sublists (x ∷ xs)) (x ∷ zs)) e (Contains-later (x ∷ []) [] (nonempty_sublists (x ∷ xs)) (Contains-here (x ∷ []) (map (λ zs. x ∷ zs) (nonempty_sublists xs) ++ nonempty_sublists xs))))
    (λ (later : Contains (nonempty_sublists xs) ys).
    Contains-later (x ∷ ys) [] (nonempty_sublists (x ∷ xs)) (Contains-later (x ∷ ys) (x ∷ []) (map (λ zs. x ∷ zs) (nonempty_sublists xs) ++ nonempty_sublists xs)
    (Contains-append_left (map (λ zs. x ∷ zs) (nonempty_sublists xs)) (nonempty_sublists xs) (x ∷ ys) (Contains-map (λ zs. x ∷ zs) ys (nonempty_sublists xs) later))))
    (Contains-cases ys [] (nonempty_sublists xs) c)

without_first : {A : Type 0} (x : A) (xs ys : List A) → Contains (sublists xs) ys → Contains (sublists (x ∷ xs)) ys
without_first x xs ys c = ⊎_elim
    (λ (e : [] ≡ ys). subst (Contains (sublists (x ∷ xs))) e (Contains-here [] (nonempty_sublists (x ∷ xs))))
    (λ (later : Contains (nonempty_sublists xs) ys).
    Contains-later ys [] (nonempty_sublists (x ∷ xs)) (Contains-later ys (x ∷ []) (map (λ zs. x ∷ zs) (nonempty_sublists xs) ++ nonempty_sublists xs)
    (Contains-append_right (map (λ zs. x ∷ zs) (nonempty_sublists xs)) (nonempty_sublists xs) ys later)))
    (Contains-cases ys [] (nonempty_sublists xs) c)

pub Contains-sublists_filter : {A : Type 0} (test : A → Bool) (xs : List A) → Contains (sublists xs) (filter test xs)
Contains-sublists_filter test [] = Contains-here [] []
Contains-sublists_filter test (x ∷ xs) =
    let later = Contains-sublists_filter test xs in
    ⊎_elim
    (λ (yes : test x ≡ true). subst (Contains (sublists (x ∷ xs))) (sym (cond-true (test x) (x ∷ filter test xs) (filter test xs) yes)) (with_first x xs (filter test xs) later))
    (λ (no : test x ≡ false). subst (Contains (sublists (x ∷ xs))) (sym (cond-false (test x) (x ∷ filter test xs) (filter test xs) no)) (without_first x xs (filter test xs) later))
    (cases_Bool (test x))

only_both : (a b : Bool) → (b ≡ true → a ≡ true) → (a && b) ≡ b
only_both true b within = refl
only_both false true within = within refl
only_both false false within = refl

-- a set that is within the atoms has the members that it takes of them
pub has-filter : (x : AtomSet) (atoms : List (List ℕ)) → IsSubset x (has atoms) → has (filter x atoms) ≡ x
has-filter x atoms within = fun_ext (λ a.
    has-is_member (filter x atoms) a
    ∙ (is_member-filter nat_list_eq_equiv x a (λ b same. ap x ((bytes_eq-Decides a b).0 same)) atoms
    ∙ (ap (λ t. t && x a) (sym (has-is_member atoms a)) ∙ only_both (has atoms a) (x a) (within a))))
