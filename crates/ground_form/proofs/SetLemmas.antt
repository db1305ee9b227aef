-- Members of ascending lists.
use Rattle.std.proofs.Common.{◌≡◌, ℕ, ◌<◌, ◌≤◌, true, false, List, length, get_or, sym, subst, arith, eq-eqb, ⊎_elim}
use Rattle.std.specs.Prelude.{Result, Ok, Err, is_ok, ◌==◌}
use Rattle.std.specs.List.Sorted.{IsBinarySearchResult, IsSearchInRange}
use Rattle.std.specs.Ordering.{nat_cmp, MatchOrdering}
use Rattle.std.specs.Cmp.{ranks}
use Rattle.std.specs.declared.cmp.Ordering.TheVariants.{Less, Equal, Greater}
use Rattle.std.proofs.lemmas.Bool.{cases_lt}
use Rattle.std.proofs.lemmas.Bool.Decides.{nat_tests}
use Rattle.std.proofs.lemmas.Cmp.{nat_cmp_total}
use Rattle.std.proofs.lemmas.List.Folds.{list_any_at, list_any_none}
use Rattle.std.proofs.lemmas.List.Sorted.{searchable_from_sorted}
use Rattle.sets.proofs.ListLemmas.{ascending_is_sorted}
use Rattle.ground_form.specs.Sets.{has, IsAscending}
use Rattle.ground_form.specs.declared.atoms.AtomId.{AtomId}

below : (x y : ℕ) → nat_cmp x y ≡ Less → (x == y) ≡ false
below x y e = let lt : x < y = subst (λ o. MatchOrdering o (x < y) (x ≡ y) (y < x)) e (ranks x y) in grind (arith, nat_tests)

above : (x y : ℕ) → nat_cmp x y ≡ Greater → (x == y) ≡ false
above x y e = let lt : y < x = subst (λ o. MatchOrdering o (x < y) (x ≡ y) (y < x)) e (ranks x y) in grind (arith, nat_tests)

equal : (x y : ℕ) → nat_cmp x y ≡ Equal → (x == y) ≡ true
equal x y e = eq-eqb x y (subst (λ o. MatchOrdering o (x < y) (x ≡ y) (y < x)) e (ranks x y))

-- a search by halving finds just the members
pub found_is_has : (ids : List AtomId) (a : ℕ) (r : Result ℕ ℕ) → IsAscending ids → IsSearchInRange r (length ids) → IsBinarySearchResult (λ (y : AtomId). nat_cmp y.0 a) ids r → is_ok r ≡ has ids a
found_is_has ids a (Ok i) ascend bound at =
    let d : AtomId = record { 0 = 0 } in
    sym (list_any_at (λ (id : AtomId). id.0 == a) ids i d bound (equal (get_or ids i d).0 a (at d)))
found_is_has ids a (Err i) ascend bound split =
    let parts = split (searchable_from_sorted nat_cmp_total (λ (id : AtomId). id.0) ids a (ascending_is_sorted (λ (id : AtomId). id.0) ids ascend)) in
    sym (list_any_none (λ (id : AtomId). id.0 == a) ids (λ k d lt. ⊎_elim
    (λ (low : k < i). below (get_or ids k d).0 a (parts.0 k d (omega arith) low))
    (λ (high : i ≤ k). above (get_or ids k d).0 a (parts.1 k d high lt))
    (cases_lt k i)))
