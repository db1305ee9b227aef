-- Sums by recursion, and the sums of the opposite weights.
use Rattle.std.proofs.Common.{◌≡◌, ℕ, ℤ, pos, ◌+ℤ◌, neg_ℤ, Bool, true, false, cond, List, [], ◌∷◌, map, fold, refl, arith}
use Rattle.std.proofs.lemmas.Int.{ints, clamps}
use Rattle.std.specs.Prelude.{Option, Some, None}
use Rattle.theory_form.specs.declared.literals.Var.{Var}
use Rattle.theory_model.specs.Truth.{sum_true}
use Rattle.agg_nogoods.specs.Ends.{least_share, greatest_share, least_end, greatest_end}

-- what a term adds
abbrev pub share : (ℕ → Bool) → ℤ × Var → ℤ
share f t = cond (f t.1.0) t.0 (pos 0)

sum_from : (f : ℕ → Bool) (a : ℤ) (ts : List (ℤ × Var)) → fold (λ sum t. sum +ℤ share f t) a ts ≡ a +ℤ fold (λ sum t. sum +ℤ share f t) (pos 0) ts
sum_from f a [] = omega (arith, ints)
sum_from f a (t ∷ ts) =
    let here = sum_from f (a +ℤ share f t) ts in
    let first = sum_from f (pos 0 +ℤ share f t) ts in
    omega (arith, ints)

pub sum_true-cons : (f : ℕ → Bool) (t : ℤ × Var) (ts : List (ℤ × Var)) → sum_true f (t ∷ ts) ≡ share f t +ℤ sum_true f ts
sum_true-cons f t ts = let first = sum_from f (pos 0 +ℤ share f t) ts in omega (arith, ints)

-- the terms with the opposite weights
abbrev pub opposite_terms : List (ℤ × Var) → List (ℤ × Var)
opposite_terms ts = map (λ t. (neg_ℤ t.0, t.1)) ts

neg_share : (b : Bool) (w : ℤ) → cond b (neg_ℤ w) (pos 0) ≡ neg_ℤ (cond b w (pos 0))
neg_share true w = refl
neg_share false w = refl

pub sum_true-opposite : (f : ℕ → Bool) (ts : List (ℤ × Var)) → sum_true f (opposite_terms ts) ≡ neg_ℤ (sum_true f ts)
sum_true-opposite f [] = refl
sum_true-opposite f (t ∷ ts) =
    let e = sum_true-opposite f ts in
    let m = sum_true-cons f (neg_ℤ t.0, t.1) (opposite_terms ts) in
    let n = sum_true-cons f t ts in
    let s = neg_share (f t.1.0) t.0 in
    omega (arith, ints)

greatest_share-opposite : (o : Option Bool) (w : ℤ) → greatest_share o (neg_ℤ w) ≡ neg_ℤ (least_share o w)
greatest_share-opposite None w = omega (arith, ints, clamps)
greatest_share-opposite (Some b) w = neg_share b w

pub greatest_end-opposite : (k : ℕ → Option Bool) (ts : List (ℤ × Var)) → greatest_end k (opposite_terms ts) ≡ neg_ℤ (least_end k ts)
greatest_end-opposite k [] = refl
greatest_end-opposite k (t ∷ ts) =
    let e = greatest_end-opposite k ts in
    let s = greatest_share-opposite (k t.1.0) t.0 in
    omega (arith, ints)
