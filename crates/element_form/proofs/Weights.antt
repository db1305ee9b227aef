-- What a search by halving finds among the integers of weights.
use Rattle.std.proofs.Common.{◌≡◌, ℕ, ℤ, ◌<◌, ◌≤◌, List, length, get_or, Contains, subst, ap, ◌∙◌, ⊎_elim, arith}
use Rattle.std.specs.Prelude.{Result, Ok, Err, IfOk, IfErr, slice_index_or}
use Rattle.std.specs.List.Sorted.{IsBinarySearchResult, IsSearchInRange}
use Rattle.std.specs.Ordering.{nat_cmp, MatchOrdering}
use Rattle.std.specs.Cmp.{ranks}
use Rattle.std.specs.declared.cmp.Ordering.TheVariants.{Less, Equal, Greater}
use Rattle.std.proofs.lemmas.Bool.{cases_lt}
use Rattle.std.proofs.lemmas.Cmp.{nat_cmp_total}
use Rattle.std.proofs.lemmas.List.{get_or_default}
use Rattle.std.proofs.lemmas.List.Sorted.{searchable_from_sorted}
use Rattle.ap_term.specs.declared.shape.TermId.{TermId}
use Rattle.element_form.specs.Specs.{IsNumberAt, HasNoNumber}
use Rattle.sets.specs.Lists.{IsAscending}
use Rattle.sets.proofs.ListLemmas.{ascending_is_sorted}

equal : (x y : ℕ) → nat_cmp x y ≡ Equal → x ≡ y
equal x y e = subst (λ o. MatchOrdering o (x < y) (x ≡ y) (y < x)) e (ranks x y)

below : (x y : ℕ) → nat_cmp x y ≡ Less → x ≡ y → ⊥
below x y e same = let lt : x < y = subst (λ o. MatchOrdering o (x < y) (x ≡ y) (y < x)) e (ranks x y) in omega (arith, lt, same)

above : (x y : ℕ) → nat_cmp x y ≡ Greater → x ≡ y → ⊥
above x y e same = let lt : y < x = subst (λ o. MatchOrdering o (x < y) (x ≡ y) (y < x)) e (ranks x y) in omega (arith, lt, same)

pair_is : (p : TermId × ℤ) (w : TermId) → p.0.0 ≡ w.0 → p ≡ (w, p.1)
pair_is p w e = ap (λ (k : ℕ). (record { 0 = k }, p.1)) e

-- a search by halving ends at the weight, or where it is not
pub searched : (numbers : List (TermId × ℤ)) → IsAscending (λ (n : TermId × ℤ). n.0.0) numbers → (w : TermId) (r : Result ℕ ℕ) → IsSearchInRange r (length numbers)
    → IsBinarySearchResult (λ (n : TermId × ℤ). nat_cmp n.0.0 w.0) numbers r → record { found : IfOk r (IsNumberAt numbers w); absent : IfErr r (λ gap. HasNoNumber numbers w) }
searched numbers ascend w (Ok i) bound at = record {
  found = (bound, λ d. (i, bound, get_or_default numbers i (w, (slice_index_or numbers i d).1) d bound ∙ pair_is (get_or numbers i d) w (equal (get_or numbers i d).0.0 w.0 (at d))));
  absent = tt;
}
searched numbers ascend w (Err i) bound split = record { found = tt; absent = none_is }
  where
    none_is : (n : ℤ) → Contains numbers (w, n) → ⊥
    none_is n (k, lt, e) =
        let parts = split (searchable_from_sorted nat_cmp_total (λ (m : TermId × ℤ). m.0.0) numbers w.0 (ascending_is_sorted (λ (m : TermId × ℤ). m.0.0) numbers ascend)) in
        let same : (get_or numbers k (w, n)).0.0 ≡ w.0 = ap (λ (m : TermId × ℤ). m.0.0) e in
        ⊎_elim
        (λ (low : k < i). below (get_or numbers k (w, n)).0.0 w.0 (parts.0 k (w, n) (omega (arith, bound, low)) low) same)
        (λ (high : i ≤ k). above (get_or numbers k (w, n)).0.0 w.0 (parts.1 k (w, n) high lt) same)
        (cases_lt k i)
