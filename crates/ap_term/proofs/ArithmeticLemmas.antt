-- Results that do not fit 64 bits are out of range.
use Rattle.std.proofs.Common.{◌≡◌, ℤ, pos, ◌+ℤ◌, ◌-ℤ◌, ◌*ℤ◌, Option, Some, None, refl, ap, ap₂, ◌∙◌, arith, sym, to_z, of_z, w64, FitsSigned, if◌then◌else◌, true, false, Bool}
use Rattle.std.specs.Prelude.{int_div, int_rem}
use Rattle.std.specs.Ordering.{int_eq}
use Rattle.std.specs.Option.{SomeIff, option_and_then}
use Rattle.std.proofs.lemmas.Int.{ints, quot-rem, to_z-of_z}
use Rattle.ap_term.specs.Arithmetic.{within, is_integer, quotient, result_of}
use Rattle.ap_term.specs.declared.arithmetic.ArithOp.TheVariants.{Rem}

integer_fits : (z : ℤ) → is_integer z ≡ true → FitsSigned w64 z
integer_fits z h = grind (arith, ints)

outside : (z : ℤ) (b : Bool) → is_integer z ≡ b → ¬ FitsSigned w64 z → (if b then Some z else None) ≡ None
outside z true e h = absurd (h (integer_fits z e))
outside z false e h = refl

-- a number that is there exactly where z fits 64 bits stands for z
pub within_exact : (r : Option ℤ) (z : ℤ) → SomeIff r (FitsSigned w64 z) z → option_and_then within r ≡ within z
within_exact (Some x) z h = ap within h.1
within_exact None z h = sym (outside z (is_integer z) refl h)

-- what is left of a division
pub remainder : (a b : ℤ) → a -ℤ (quotient a b *ℤ b) ≡ int_rem a b
remainder a b = let e : int_div a b *ℤ b +ℤ int_rem a b ≡ a = quot-rem a b in omega (arith, ints)

not_zero : (b : ℤ) → (of_z w64 b ≡ 0 → ⊥) → int_eq b (pos 0) ≡ false
not_zero b h = grind (arith, ints)

-- what the code's remainder is, where the divisor is not 0
pub result_of-Rem : (a b r : ℤ) (result : Option ℤ) → FitsSigned w64 a → FitsSigned w64 b → FitsSigned w64 r → (of_z w64 b ≡ 0 → ⊥)
    → r ≡ int_rem (to_z w64 (of_z w64 a)) (to_z w64 (of_z w64 b)) → result ≡ within (to_z w64 (of_z w64 r)) → result ≡ result_of Rem a b
result_of-Rem a b r result fa fb fr h e k =
    let r_is : r ≡ int_rem a b = e ∙ ap₂ int_rem (to_z-of_z w64 a fa) (to_z-of_z w64 b fb) in
    let same : within (to_z w64 (of_z w64 r)) ≡ within (a -ℤ (quotient a b *ℤ b)) = ap within (to_z-of_z w64 r fr ∙ r_is ∙ sym (remainder a b)) in
    let away : int_eq b (pos 0) ≡ false = not_zero b h in rw away (k ∙ same)
