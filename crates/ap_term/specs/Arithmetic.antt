-- Arithmetic on the integers among the values.
use Rattle.std.specs.Prelude.{ℤ, pos, negsuc, ◌+ℤ◌, ◌-ℤ◌, ◌*ℤ◌, int_div, int_le, Bool, ◌&&◌, Option, Some, None, if◌then◌else◌}
use Rattle.std.specs.Ordering.{int_eq}
use Rattle.ap_term.specs.declared.arithmetic.ArithOp.{ArithOp}
use Rattle.ap_term.specs.declared.arithmetic.ArithOp.TheVariants.{Add, Sub, Mul, Div, Rem}

-- from -2147483647 to 2147483647
abbrev pub is_integer : ℤ → Bool
is_integer n = int_le (negsuc 2147483646) n && int_le n (pos 2147483647)

-- n, if there is such an integer
abbrev pub within : ℤ → Option ℤ
within n = if is_integer n then Some n else None

-- the quotient, rounded toward 0
abbrev pub quotient : ℤ → ℤ → ℤ
quotient = int_div

-- what an operation gives on two integers. There is no value where the divisor is 0, nor where the result is out of range
abbrev pub result_of : ArithOp → ℤ → ℤ → Option ℤ
result_of Add a b = within (a +ℤ b)
result_of Sub a b = within (a -ℤ b)
result_of Mul a b = within (a *ℤ b)
result_of Div a b = if int_eq b (pos 0) then None else within (quotient a b)
result_of Rem a b = if int_eq b (pos 0) then None else within (a -ℤ (quotient a b *ℤ b))

-- what an operation gives: no value where an operand is out of range
abbrev pub compute : ArithOp → ℤ → ℤ → Option ℤ
compute op a b = if is_integer a && is_integer b then result_of op a b else None
