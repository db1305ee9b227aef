-- What is kept of a list.
use Rattle.std.proofs.Common.{◌≡◌, ℕ, zero, suc, ◌<◌, List, [], ◌∷◌, ◌++◌, length, get_or, sym, subst, arith}
use Rattle.std.specs.Prelude.{All, Contains}
use Rattle.std.specs.List.{AllByRecursion}
use Rattle.std.specs.List.Sorted.{IsStrictlySortedBy}
use Rattle.std.specs.declared.cmp.Ordering.{Ordering}
use Rattle.std.specs.declared.cmp.Ordering.TheVariants.{Less}
use Rattle.std.proofs.lemmas.List.Elements.{All-from_recursion}
use Rattle.small_optima.specs.Kept.{Kept, none, keep, leave}

module _ {A : Type 0} (P : A → Type 0) where
  pub Kept-push_yes : {xs ys : List A} (x : A) → Kept P xs ys → P x → Kept P (xs ++ x ∷ []) (ys ++ x ∷ [])
  Kept-push_yes x none p = keep p none
  Kept-push_yes x (keep q k) p = keep q (Kept-push_yes x k p)
  Kept-push_yes x (leave q k) p = leave q (Kept-push_yes x k p)

  pub Kept-push_no : {xs ys : List A} (x : A) → Kept P xs ys → (P x → ⊥) → Kept P (xs ++ x ∷ []) ys
  Kept-push_no x none p = leave p none
  Kept-push_no x (keep q k) p = keep q (Kept-push_no x k p)
  Kept-push_no x (leave q k) p = leave q (Kept-push_no x k p)

  each_kept : {xs ys : List A} → Kept P xs ys → AllByRecursion P ys
  each_kept none = tt
  each_kept (keep p k) = (p, each_kept k)
  each_kept (leave p k) = each_kept k

  pub All-kept : (xs ys : List A) → Kept P xs ys → All P ys
  All-kept xs ys k = All-from_recursion P ys (each_kept k)

  -- what holds of each member holds of each that is kept
  pub still_each : (Q : A → Type 0) {xs ys : List A} → Kept P xs ys → AllByRecursion Q xs → AllByRecursion Q ys
  still_each Q none h = tt
  still_each Q (keep p k) h = (h.0, still_each Q k h.1)
  still_each Q (leave p k) h = still_each Q k h.1

  pub IsStrictlySortedBy-kept : (cmp : A → A → Ordering) {xs ys : List A} → Kept P xs ys → IsStrictlySortedBy cmp xs → IsStrictlySortedBy cmp ys
  unfolding IsStrictlySortedBy
  IsStrictlySortedBy-kept cmp none s = tt
  IsStrictlySortedBy-kept cmp (keep {x} p k) s = (still_each (λ y. cmp x y ≡ Less) k s.0, IsStrictlySortedBy-kept cmp k s.1)
  IsStrictlySortedBy-kept cmp (leave p k) s = IsStrictlySortedBy-kept cmp k s.1

  -- a member of which P holds is kept
  at_kept : {xs ys : List A} (i : ℕ) (x : A) → Kept P xs ys → i < length xs → get_or xs i x ≡ x → P x → Contains ys x
  at_kept i x none lt e p = let bad : i < 0 = lt in absurd (omega arith)
  at_kept zero x (keep q k) lt e p = (0, omega arith, e)
  at_kept zero x (leave {x = y} q k) lt e p = absurd (q (subst P (sym e) p))
  at_kept (suc i) x (keep q k) lt e p = let c = at_kept i x k (omega arith) e p in (suc c.0, omega arith, c.2)
  at_kept (suc i) x (leave q k) lt e p = at_kept i x k (omega arith) e p

  pub Contains-kept : {xs ys : List A} (x : A) → Kept P xs ys → Contains xs x → P x → Contains ys x
  Contains-kept x k c p = at_kept c.0 x k c.1 c.2 p
