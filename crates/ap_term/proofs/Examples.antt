-- Worked examples of the definitions, which compute.
use Rattle.std.proofs.Common.{◌≡◌, [], refl, negsuc, pos, Less, Some, None}
use Rattle.std.specs.Prelude.{codes}
use Rattle.std.specs.Fmt.{digits}
use Rattle.ap_term.specs.declared.arithmetic.ArithOp.TheVariants.{Add, Sub, Div, Rem}
use Rattle.ap_term.specs.Value.{Value, integer, constant, string, compound, none, also, depth}
use Rattle.ap_term.specs.Order.{value_cmp}
use Rattle.ap_term.specs.Arithmetic.{compute}
use Rattle.ap_term.specs.Printed.{text}

abbrev a : Value
a = constant (codes "a")

abbrev empty_tuple : Value
empty_tuple = compound [] none

abbrev tuple_of_one : Value
tuple_of_one = compound [] (also (integer (pos 1)) none)

abbrev f_of_one : Value
f_of_one = compound (codes "f") (also (integer (pos 1)) none)

abbrev nested : Value
nested = compound (codes "f") (also (integer (negsuc 2)) (also (compound [] (also (constant (codes "x")) (also (string (codes "y")) none))) none))

-- texts
text-empty_tuple : text empty_tuple ≡ codes "()"
text-empty_tuple = refl

text-tuple_of_one : text tuple_of_one ≡ codes "(1,)"
unfolding digits
text-tuple_of_one = refl

text-f_of_one : text f_of_one ≡ codes "f(1)"
unfolding digits
text-f_of_one = refl

text-nested : text nested ≡ codes "f(-3,(x,\"y\"))"
unfolding digits
text-nested = refl

text-string : text (string (codes "a\\b\"c\n")) ≡ codes "\"a\\\\b\\\"c\\n\""
text-string = refl

-- order: integers, constants, strings, then by arity before name
integer-constant : value_cmp (integer (pos 2147483647)) a ≡ Less
integer-constant = refl

constant-string : value_cmp (constant (codes "b")) (string (codes "a")) ≡ Less
constant-string = refl

string-tuple : value_cmp (string (codes "z")) empty_tuple ≡ Less
string-tuple = refl

arity-first : value_cmp (compound (codes "g") (also a none)) nested ≡ Less
arity-first = refl

name-next : value_cmp tuple_of_one f_of_one ≡ Less
name-next = refl

-- depth
depth-empty_tuple : depth empty_tuple ≡ 1
depth-empty_tuple = refl

depth-nested : depth nested ≡ 3
depth-nested = refl

-- arithmetic
quotient-toward_zero : compute Div (negsuc 6) (pos 2) ≡ Some (negsuc 2)
quotient-toward_zero = refl

remainder-of_dividend : compute Rem (negsuc 6) (pos 2) ≡ Some (negsuc 0)
remainder-of_dividend = refl

remainder-by_negative : compute Rem (pos 7) (negsuc 1) ≡ Some (pos 1)
remainder-by_negative = refl

no_quotient : compute Div (pos 1) (pos 0) ≡ None
no_quotient = refl

past_the_end : compute Add (pos 2147483647) (pos 1) ≡ None
past_the_end = refl

least : compute Sub (pos 0) (pos 2147483647) ≡ Some (negsuc 2147483646)
least = refl

below_the_least : compute Sub (negsuc 2147483646) (pos 1) ≡ None
below_the_least = refl
