-- One more term, in the loop that reckons the ends of a sum.
use Rattle.std.proofs.Common.{◌≡◌, ℕ, ◌+◌, ◌<◌, ℤ, ◌+ℤ◌, Bool, true, false, List, length, get_or, drop, sum_by, sym, ap, subst, ◌∷◌, ◌∙◌, arith}
use Rattle.std.specs.Prelude.{Option, Some, None, unsigned_abs}
use Rattle.std.proofs.lemmas.Int.{ints, clamps}
use Rattle.std.proofs.lemmas.List.{drop_more}
use Rattle.std.proofs.lemmas.List.Sums.{sum_by-cons}
use Rattle.theory_form.specs.declared.literals.Var.{Var}
use Rattle.agg_nogoods.specs.Ends.{least_share, greatest_share, least_end, greatest_end}

small_least : (o : Option Bool) (w : ℤ) (n m : ℕ) (z : ℤ) → unsigned_abs z + (unsigned_abs w + n) < m → unsigned_abs (z +ℤ least_share o w) + n < m
small_least None w n m z h = omega (arith, ints, clamps)
small_least (Some true) w n m z h = omega (arith, ints)
small_least (Some false) w n m z h = omega (arith, ints)

small_greatest : (o : Option Bool) (w : ℤ) (n m : ℕ) (z : ℤ) → unsigned_abs z + (unsigned_abs w + n) < m → unsigned_abs (z +ℤ greatest_share o w) + n < m
small_greatest None w n m z h = omega (arith, ints, clamps)
small_greatest (Some true) w n m z h = omega (arith, ints)
small_greatest (Some false) w n m z h = omega (arith, ints)

-- the weights from a place on
abbrev pub left : List (ℤ × Var) → ℕ → ℕ
left ts j = sum_by (λ (t : ℤ × Var). unsigned_abs t.0) (drop j ts)

module _ (k : ℕ → Option Bool) (ts : List (ℤ × Var)) (i : ℕ) (t : ℤ × Var) (low : i < length ts) (is : get_or ts i t ≡ t) (z next : ℤ) where
  first : drop i ts ≡ t ∷ drop (i + 1) ts
  first = drop_more ts i t low ∙ ap (λ s. s ∷ drop (i + 1) ts) is

  pub left_first : left ts i ≡ unsigned_abs t.0 + left ts (i + 1)
  left_first = ap (sum_by (λ (s : ℤ × Var). unsigned_abs s.0)) first ∙ sum_by-cons (λ (s : ℤ × Var). unsigned_abs s.0) t (drop (i + 1) ts)

  pub least_step : next ≡ z +ℤ least_share (k t.1.0) t.0 → least_end k ts ≡ z +ℤ least_end k (drop i ts) → least_end k ts ≡ next +ℤ least_end k (drop (i + 1) ts)
  least_step one before = let e = ap (least_end k) first in omega (arith, ints)

  pub greatest_step : next ≡ z +ℤ greatest_share (k t.1.0) t.0 → greatest_end k ts ≡ z +ℤ greatest_end k (drop i ts) → greatest_end k ts ≡ next +ℤ greatest_end k (drop (i + 1) ts)
  greatest_step one before = let e = ap (greatest_end k) first in omega (arith, ints)

  pub small_least_step : (m : ℕ) → next ≡ z +ℤ least_share (k t.1.0) t.0 → unsigned_abs z + left ts i < m → unsigned_abs next + left ts (i + 1) < m
  small_least_step m one before =
      let e = left_first in
      let h = small_least (k t.1.0) t.0 (left ts (i + 1)) m z (omega arith) in
      subst (λ s. unsigned_abs s + left ts (i + 1) < m) (sym one) h

  pub small_greatest_step : (m : ℕ) → next ≡ z +ℤ greatest_share (k t.1.0) t.0 → unsigned_abs z + left ts i < m → unsigned_abs next + left ts (i + 1) < m
  small_greatest_step m one before =
      let e = left_first in
      let h = small_greatest (k t.1.0) t.0 (left ts (i + 1)) m z (omega arith) in
      subst (λ s. unsigned_abs s + left ts (i + 1) < m) (sym one) h
