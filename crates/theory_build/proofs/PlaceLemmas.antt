-- Where a list of literals stands in a strictly ascending list, and what a search by halving finds.
use Rattle.std.proofs.Common.{◌≡◌, ℕ, zero, suc, ◌<◌, ◌≤◌, Bool, true, false, List, [], ◌∷◌, length, get_or, inl, inr, cond, refl, sym, ◌∙◌, ap, subst, arith, Some, None, lt-ltb, le-ltb}
use Rattle.std.specs.Prelude.{nat_lt, unwrap_or}
use Rattle.std.specs.List.{position_or_len}
use Rattle.std.specs.Cmp.{tied_back}
use Rattle.std.specs.List.Sorted.{IsStrictlySortedBy, IsBinarySearchResult, IsSearchInRange, IsNonDecreasingBy}
use Rattle.std.specs.Ordering.{is_eq, ordering_index, ordering_reverse}
use Rattle.std.specs.Result.{result_unwrap_or}
use Rattle.std.specs.declared.cmp.Ordering.{Ordering}
use Rattle.std.specs.declared.cmp.Ordering.TheVariants.{Less, Equal, Greater}
use Rattle.std.specs.declared.result.Result.{Result}
use Rattle.std.specs.declared.result.Result.TheVariants.{Ok, Err}
use Rattle.std.proofs.lemmas.Bool.{cases_lt}
use Rattle.std.proofs.lemmas.List.Elements.{Contains-get_or}
use Rattle.std.proofs.lemmas.List.Sums.{position_or_len_is}
use Rattle.std.proofs.lemmas.Map.Keys.{sorted_tail}
use Rattle.theory_form.specs.declared.literals.Lit.{Lit}
use Rattle.theory_build.specs.Ascending.{lits_cmp, place_in}
use Rattle.theory_build.proofs.AscendingLemmas.{IsOrder, strict_after}
use Rattle.theory_build.proofs.OrderLemmas.{lits_order}

-- of two members of a strictly ascending list the first is below the second
pub strict_below : (xs : List (List Lit)) (j k : ℕ) (d : List Lit) → IsStrictlySortedBy lits_cmp xs → j < k → k < length xs → lits_cmp (get_or xs j d) (get_or xs k d) ≡ Less
strict_below [] j k d h before within = absurd (omega arith)
strict_below (x ∷ xs) j zero d h before within = absurd (omega arith)
strict_below (x ∷ xs) zero (suc k) d h before within =
    strict_after lits_order x (get_or xs k d) xs h (Contains-get_or xs k d (omega arith))
strict_below (x ∷ xs) (suc j) (suc k) d h before within = strict_below xs j k d (sorted_tail lits_cmp x xs h) (omega arith) (omega arith)

not_eq_less : (x y : List Lit) → lits_cmp y x ≡ Less → is_eq (lits_cmp x y) ≡ false
not_eq_less x y h = ap is_eq (lits_order.total.antisymm x y ∙ ap ordering_reverse h)

not_eq_greater : (x y : List Lit) → lits_cmp y x ≡ Greater → is_eq (lits_cmp x y) ≡ false
not_eq_greater x y h = ap is_eq (lits_order.total.antisymm x y ∙ ap ordering_reverse h)

-- what a search by the order goes by rises along a strictly ascending list
rises_by : (r s : Ordering) → (s ≡ Less → r ≡ Less) → (s ≡ Equal → r ≡ Less) → ordering_index r ≤ ordering_index s
rises_by r Less less equal = let e = ap ordering_index (less refl) in omega arith
rises_by r Equal less equal = let e = ap ordering_index (equal refl) in omega arith
rises_by Less Greater less equal = omega arith
rises_by Equal Greater less equal = omega arith
rises_by Greater Greater less equal = omega arith

rises : (xs : List (List Lit)) (x : List Lit) → IsStrictlySortedBy lits_cmp xs → IsNonDecreasingBy (λ y. ordering_index (lits_cmp y x)) xs
rises xs x strict i j d upto within =
    elim (cases_lt i j) [
      | inl before ↦
          let below = strict_below xs i j d strict before within in
          rises_by (lits_cmp (get_or xs i d) x) (lits_cmp (get_or xs j d) x)
          (λ e. lits_order.total.trans (get_or xs i d) (get_or xs j d) x below e)
          (λ e. subst (λ y. lits_cmp (get_or xs i d) y ≡ Less) (lits_order.same (get_or xs j d) x e) below)
      | inr last ↦
          let e : i ≡ j = omega arith in
          subst (λ k. ordering_index (lits_cmp (get_or xs i d) x) ≤ ordering_index (lits_cmp (get_or xs k d) x)) e (omega arith)
    ]

abbrev tied_with : List Lit → List Lit → Bool
tied_with x y = is_eq (lits_cmp x y)

position_within : (n len : ℕ) → n < len → unwrap_or (cond (nat_lt n len) (Some n) None) 0 ≡ n
position_within n len within = ap (λ b. unwrap_or (cond b (Some n) None) 0) (lt-ltb n len within)

position_past : (n : ℕ) → unwrap_or (cond (nat_lt n n) (Some n) None) 0 ≡ 0
position_past n = ap (λ b. unwrap_or (cond b (Some n) None) 0) (le-ltb n n (omega arith))

found_place : (xs : List (List Lit)) (x : List Lit) (k : ℕ) → IsStrictlySortedBy lits_cmp xs → k < length xs → ((d : List Lit) → lits_cmp (get_or xs k d) x ≡ Equal) → k ≡ place_in xs x
unfolding place_in
found_place xs x k strict within tied =
    let here : get_or xs k x ≡ x = lits_order.same (get_or xs k x) x (tied x) in
    let n : position_or_len (tied_with x) xs ≡ k = position_or_len_is (tied_with x) xs k x (omega arith)
    (λ j before. not_eq_less x (get_or xs j x) (subst (λ y. lits_cmp (get_or xs j x) y ≡ Less) here (strict_below xs j k x strict before within)))
    (λ w. ap is_eq (tied_back lits_order.total (get_or xs k x) x (tied x)))
    in
    sym (position_within k (length xs) within) ∙ ap (λ m. unwrap_or (cond (nat_lt m (length xs)) (Some m) None) 0) (sym n)

absent_place : (xs : List (List Lit)) (x : List Lit) → ((j : ℕ) → j < length xs → tied_with x (get_or xs j x) ≡ false) → 0 ≡ place_in xs x
unfolding place_in
absent_place xs x none =
    let n : position_or_len (tied_with x) xs ≡ length xs = position_or_len_is (tied_with x) xs (length xs) x (omega arith) none (λ w. absurd (omega arith)) in
    sym (position_past (length xs)) ∙ ap (λ m. unwrap_or (cond (nat_lt m (length xs)) (Some m) None) 0) (sym n)

-- what a search by halving answers is the place
pub searched_place : (xs : List (List Lit)) (x : List Lit) (r : Result ℕ ℕ) → IsStrictlySortedBy lits_cmp xs → IsSearchInRange r (length xs) → IsBinarySearchResult (λ y. lits_cmp y x) xs r → result_unwrap_or r 0 ≡ place_in xs x
searched_place xs x (Ok k) strict within found = found_place xs x k strict within found
searched_place xs x (Err i) strict within split =
    let parts = split (rises xs x strict) in
    absent_place xs x (λ j inside. elim (cases_lt j i) [
      | inl before ↦ not_eq_less x (get_or xs j x) (parts.0 j x (omega arith) before)
      | inr behind ↦ not_eq_greater x (get_or xs j x) (parts.1 j x behind inside)
    ])
