-- Lists of literals in ascending order.
use Rattle.std.proofs.Common.{◌≡◌, zero, suc, ◌+◌, inl, inr, true, List, [], ◌∷◌, length, get_or, sym, subst, arith, ◌==◌}
use Rattle.std.specs.List.{AllAdjacentBelow, Contains}
use Rattle.std.specs.List.Retain.{IsFiltered, DiffersFromLast}
use Rattle.std.specs.List.Sorted.{IsStrictlySortedBy, IsSorted, IsPermutation}
use Rattle.std.specs.declared.cmp.Ordering.TheVariants.{Less}
use Rattle.std.specs.Cmp.{IsEquivalence, and_equiv, on_equiv, nat_eq_equiv, bool_eq_equiv, booleans_Decides, first_so, second_so}
use Rattle.std.proofs.lemmas.Map.Views.{All-after_first}
use Rattle.std.proofs.lemmas.Map.Keys.{sorted_tail}
use Rattle.std.proofs.lemmas.List.Kept.{AllPairs-cons, IsStrictlySortedBy-dedup, Contains-dedup, Contains-from_dedup}
use Rattle.std.proofs.lemmas.List.Filters.{dedup_is}
use Rattle.std.proofs.lemmas.List.Sorted.{Contains-permutation, IsPermutation-sym}
use Rattle.std.proofs.lemmas.Bool.{eqb-true, cases_lt}
use Rattle.std.proofs.Common.{◌↔◌}
use Rattle.std.specs.Bool.{beq}
use Rattle.theory_form.specs.declared.literals.Lit.{Lit}
use Rattle.theory_form.specs.Literals.{lit_cmp, IsAscending}
use Rattle.theory_form.specs.Order.{lit_total, lit_eq, lit_ties}

pub ascending_from_sorted : (c : List Lit) → IsStrictlySortedBy lit_cmp c → IsAscending c
ascending_from_sorted [] h = λ i j d before within. absurd (omega arith)
ascending_from_sorted (l ∷ c) h =
    AllPairs-cons (λ a b. lit_cmp a b ≡ Less) l c (All-after_first lit_cmp l c h) (ascending_from_sorted c (sorted_tail lit_cmp l c h))

-- literals each of which is before the next ascend
pub ascending_from_adjacent : (c : List Lit) → AllAdjacentBelow (λ a b. lit_cmp a b ≡ Less) c (length c) → IsAscending c
ascending_from_adjacent c h i zero d before within = absurd (omega arith)
ascending_from_adjacent c h i (suc j) d before within =
    let step : lit_cmp (get_or c j d) (get_or c (suc j) d) ≡ Less =
    let e : j + 1 ≡ suc j = omega arith in subst (λ k. lit_cmp (get_or c j d) (get_or c k d) ≡ Less) e (h j d (omega arith))
    in
    elim (cases_lt i j) [
      | inl below ↦
          lit_total.trans (get_or c i d) (get_or c j d) (get_or c (suc j) d) (ascending_from_adjacent c h i j d below (omega arith)) step
      | inr last ↦ let same : i ≡ j = omega arith in subst (λ k. lit_cmp (get_or c k d) (get_or c (suc j) d) ≡ Less) (sym same) step
    ]

-- a sorted list without repeats
pub ascending_from_dedup : (xs ys : List Lit) → IsSorted lit_cmp xs → IsFiltered (DiffersFromLast lit_eq) [] xs ys → IsAscending ys
ascending_from_dedup xs ys sorted kept =
    ascending_from_sorted ys (subst (IsStrictlySortedBy lit_cmp) (sym (dedup_is lit_eq xs ys kept)) (IsStrictlySortedBy-dedup lit_total lit_ties xs sorted))

lit_equiv : IsEquivalence lit_eq
lit_equiv =
    and_equiv (on_equiv (λ (l : Lit). l.var.0) nat_eq_equiv) (on_equiv (λ (l : Lit). l.yes) bool_eq_equiv)

lit_eq-true : (x y : Lit) → lit_eq x y ≡ true → x ≡ y
lit_eq-true x y h =
    let v = eqb-true x.var.0 y.var.0 (first_so (x.var.0 == y.var.0) (beq x.yes y.yes) h) in
    let b = (booleans_Decides x.yes y.yes).0 (second_so (x.var.0 == y.var.0) (beq x.yes y.yes) h) in
    λ i. record { var = record { 0 = v i }; yes = b i }

pub same_from_dedup : (zs xs ys : List Lit) → IsPermutation zs xs → IsFiltered (DiffersFromLast lit_eq) [] xs ys → (l : Lit) → Contains ys l ↔ Contains zs l
same_from_dedup zs xs ys moved kept l =
    let e = dedup_is lit_eq xs ys kept in (
      λ h. Contains-permutation xs zs l (IsPermutation-sym zs xs moved) (Contains-from_dedup lit_eq xs l (subst (λ q. Contains q l) e h)),
      λ h. subst (λ q. Contains q l) (sym e) (Contains-dedup lit_equiv lit_eq-true xs l (Contains-permutation zs xs l moved h)),
    )
