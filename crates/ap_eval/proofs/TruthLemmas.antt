-- Weights and entries of a list that is counted from 1.
use Rattle.std.proofs.Common.{◌≡◌, ℕ, zero, suc, Bool, true, false, ◌&&◌, List, sym, ap, ◌∙◌, subst, arith, Some}
use Rattle.std.specs.Prelude.{ℤ, pos, negsuc, neg_ℤ, ◌≤ℤ◌, All, slice_get, unsigned_abs}
use Rattle.std.proofs.lemmas.Int.{ints}
use Rattle.std.proofs.lemmas.Option.{slice_get_within, get_or_from_slice_get}
use Rattle.ground_form.specs.Programs.{numbered}

pub abs_low : (w : ℤ) → neg_ℤ (pos (unsigned_abs w)) ≤ℤ w
abs_low (pos n) = omega (arith, ints)
abs_low (negsuc k) = omega (arith, ints)

pub abs_high : (w : ℤ) → w ≤ℤ pos (unsigned_abs w)
abs_high (pos n) = omega (arith, ints)
abs_high (negsuc k) = omega (arith, ints)

-- what holds of each entry holds of one that was read by its number
pub All-numbered : {X : Type 0} (P : X → Type 0) (xs : List X) (k : ℕ) (x : X) → All P xs → Some x ≡ numbered xs k → P x
All-numbered P xs zero x h e = absurd (cc)
All-numbered P xs (suc i) x h e =
    let at : slice_get xs i ≡ Some x = sym e in
    subst P (get_or_from_slice_get xs i x x at) (h i x (slice_get_within xs i x at))

-- the branches of a `&&` of two tests
pub and_at_true : (r p s q : Bool) → r ≡ p → r ≡ true → s ≡ q → s ≡ (p && q)
and_at_true r p s q e t f = f ∙ ap (λ b. b && q) (sym t ∙ e)

pub and_at_false : (r p q : Bool) → r ≡ p → r ≡ false → r ≡ (p && q)
and_at_false r p q e t = t ∙ ap (λ b. b && q) (sym t ∙ e)
