-- What sorting and then dropping repeats gives is `ascending`.
use Rattle.std.proofs.Common.{◌≡◌, Bool, true, List, [], sym, ◌∙◌, subst}
use Rattle.std.specs.List.{Contains}
use Rattle.std.specs.List.Retain.{IsFiltered, DiffersFromLast}
use Rattle.std.specs.List.Sorted.{IsStrictlySortedBy, IsSorted, IsPermutation}
use Rattle.std.specs.Cmp.{IsEquivalence, eq_by_cmp_equiv, Equal-is}
use Rattle.std.specs.Ordering.{eq_by_cmp}
use Rattle.std.specs.declared.cmp.Ordering.{Ordering}
use Rattle.std.proofs.lemmas.List.Kept.{IsStrictlySortedBy-dedup, Contains-dedup, Contains-from_dedup}
use Rattle.std.proofs.lemmas.List.Filters.{dedup_is}
use Rattle.std.proofs.lemmas.List.Sorted.{Contains-permutation, IsPermutation-sym}
use Rattle.theory_build.specs.Ascending.{ascending}
use Rattle.theory_build.proofs.AscendingLemmas.{IsOrder, SameMembers, ascending_unique}

module _ {A : Type 0} {cmp : A → A → Ordering} {eq : A → A → Bool} (o : IsOrder cmp) (ties : (x y : A) → eq x y ≡ eq_by_cmp cmp x y) where
  equivalence : IsEquivalence eq
  equivalence = let e = eq_by_cmp_equiv o.total in record {
    refl = λ x. ties x x ∙ e.refl x;
    symm = λ x y. ties x y ∙ e.symm x y ∙ sym (ties y x);
    congr = λ x y z h. ties x z ∙ e.congr x y z (sym (ties x y) ∙ h) ∙ sym (ties y z);
  }

  same_by_eq : (x y : A) → eq x y ≡ true → x ≡ y
  same_by_eq x y h = o.same x y ((Equal-is (cmp x y)).0 (sym (ties x y) ∙ h))

  pub ascending_from_sort : (zs xs ys : List A) → IsPermutation zs xs → IsSorted cmp xs → IsFiltered (DiffersFromLast eq) [] xs ys → ys ≡ ascending cmp zs
  ascending_from_sort zs xs ys moved sorted kept =
      let e = dedup_is eq xs ys kept in
      ascending_unique o ys zs
      (subst (IsStrictlySortedBy cmp) (sym e) (IsStrictlySortedBy-dedup o.total ties xs sorted))
      (record {
        there = λ x h. Contains-permutation xs zs x (IsPermutation-sym zs xs moved) (Contains-from_dedup eq xs x (subst (λ q. Contains q x) e h));
        back = λ x h. subst (λ q. Contains q x) (sym e) (Contains-dedup equivalence same_by_eq xs x (Contains-permutation zs xs x moved h));
      })
