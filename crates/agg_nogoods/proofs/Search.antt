-- What a binary search finds in a clause.
use Rattle.std.proofs.Common.{◌≡◌, ℕ, ◌+◌, List, length, get_or, sym, ap, ◌∙◌, inl, inr, arith}
use Rattle.std.specs.Prelude.{Result, Ok, Err, is_ok}
use Rattle.std.specs.Ordering.{is_lt, is_eq, ordering_reverse}
use Rattle.std.specs.declared.cmp.Ordering.{Ordering}
use Rattle.std.specs.declared.cmp.Ordering.TheVariants.{Less, Equal, Greater}
use Rattle.std.specs.List.Sorted.{IsBinarySearchResult, IsSearchInRange, IsSortedBy}
use Rattle.std.proofs.lemmas.Bool.{cases_lt}
use Rattle.std.proofs.lemmas.List.Sorted.{searchable_from_sorted}
use Rattle.std.proofs.lemmas.List.Folds.{list_any_at, list_any_none}
use Rattle.theory_form.specs.declared.literals.Lit.{Lit}
use Rattle.theory_form.specs.Literals.{IsAscending, lit_cmp}
use Rattle.theory_form.specs.Order.{lit_eq, lit_total, lit_ties}
use Rattle.agg_nogoods.specs.Known.{has}

turned : (x y : Lit) (o : Ordering) → lit_cmp x y ≡ o → lit_cmp y x ≡ ordering_reverse o
turned x y o h = lit_total.antisymm y x ∙ ap ordering_reverse h

equal_by : (x y : Lit) (o : Ordering) → lit_cmp y x ≡ o → lit_eq x y ≡ is_eq (ordering_reverse o)
equal_by x y o h = lit_ties x y ∙ ap is_eq (turned y x o h)

sorted : (c : List Lit) → IsAscending c → IsSortedBy (λ a b. is_lt (lit_cmp a b)) c
sorted c up k d low inside = ap is_lt (turned (get_or c k d) (get_or c (k + 1) d) Less (up k (k + 1) d (omega arith) inside))

pub found : (c : List Lit) (l : Lit) (r : Result ℕ ℕ) → IsAscending c → IsSearchInRange r (length c) → IsBinarySearchResult (λ y. lit_cmp y l) c r → is_ok r ≡ has c l
found c l (Ok i) up within h = sym (list_any_at (lit_eq l) c i l within (equal_by l (get_or c i l) Equal (h l)))
found c l (Err i) up within h =
    let parts = h (searchable_from_sorted lit_total (λ (y : Lit). y) c l (sorted c up)) in
    sym (list_any_none (lit_eq l) c (λ k d low. elim (cases_lt k i) [
      | inl below ↦ equal_by l (get_or c k d) Less (parts.0 k d (omega arith) below)
      | inr above ↦ equal_by l (get_or c k d) Greater (parts.1 k d above low)
    ]))
