use Rattle.std.proofs.Common.{◌≡◌, ℕ, ◌<◌, ◌≤◌, ◌==◌, false, List, get_or, subst, arith, ⊎_elim}
use Rattle.std.specs.Prelude.{Err}
use Rattle.std.specs.List.{list_any}
use Rattle.std.specs.List.Sorted.{IsBinarySearchResult}
use Rattle.std.specs.Ordering.{nat_cmp, MatchOrdering}
use Rattle.std.specs.Cmp.{ranks}
use Rattle.std.specs.declared.cmp.Ordering.TheVariants.{Less, Greater}
use Rattle.std.proofs.lemmas.Bool.{cases_lt}
use Rattle.std.proofs.lemmas.Bool.Decides.{nat_tests}
use Rattle.std.proofs.lemmas.Cmp.{nat_cmp_total}
use Rattle.std.proofs.lemmas.List.Folds.{list_any_none}
use Rattle.std.proofs.lemmas.List.Sorted.{searchable_from_sorted}
use Rattle.sets.proofs.ListLemmas.{ascending_is_sorted}
use Rattle.theory_form.specs.declared.literals.ClauseId.{ClauseId}
use Rattle.asp_engine.specs.Periods.{AreAscendingIds}
use Rattle.asp_engine.proofs.forgetting.is_among.Goals as goal

below : (x y : ℕ) → nat_cmp x y ≡ Less → (x == y) ≡ false
below x y e = let lt : x < y = subst (λ o. MatchOrdering o (x < y) (x ≡ y) (y < x)) e (ranks x y) in grind (arith, nat_tests)

above : (x y : ℕ) → nat_cmp x y ≡ Greater → (x == y) ≡ false
above x y e = let lt : y < x = subst (λ o. MatchOrdering o (x < y) (x ≡ y) (y < x)) e (ranks x y) in grind (arith, nat_tests)

-- a search by halving that finds nothing
none_found : (ids : List ClauseId) (a i : ℕ) → AreAscendingIds ids → IsBinarySearchResult (λ (y : ClauseId). nat_cmp y.0 a) ids (Err i) → list_any (λ (m : ClauseId). m.0 == a) ids ≡ false
none_found ids a i ascend split =
    let parts = split (searchable_from_sorted nat_cmp_total (λ (id : ClauseId). id.0) ids a (ascending_is_sorted (λ (id : ClauseId). id.0) ids ascend)) in
    list_any_none (λ (m : ClauseId). m.0 == a) ids (λ k d lt. ⊎_elim
    (λ (low : k < i). below (get_or ids k d).0 a (parts.0 k d (omega arith) low))
    (λ (high : i ≤ k). above (get_or ids k d).0 a (parts.1 k d high lt))
    (cases_lt k i))

pub returns-in-Err : goal.returns-in-Err
returns-in-Err c = λ _. none_found c.args.ids.now c.args.number.0 c.in-Err.field-0 c.requires c.in-Err.ensures.position
