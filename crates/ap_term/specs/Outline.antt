-- How two shapes compare before their arguments are looked at.
use Rattle.std.specs.Prelude.{ℕ, List, [], length}
use Rattle.std.specs.declared.cmp.Ordering.{Ordering}
use Rattle.std.specs.Ordering.{ordering_then, nat_cmp, int_cmp}
use Rattle.ap_term.specs.Order.{bytes_cmp}
use Rattle.ap_term.specs.declared.shape.Shape.{Shape}
use Rattle.ap_term.specs.declared.shape.Shape.TheVariants.{Int, Sym, Str, Fun}
use Rattle.ap_term.specs.declared.shape.TermId.{TermId}

-- integers, constants, strings, compound terms
abbrev pub rank : Shape → ℕ
rank (Int n) = 0
rank (Sym name) = 1
rank (Str bytes) = 2
rank (Fun name ids) = 3

abbrev pub arguments_of : Shape → List TermId
arguments_of (Int n) = []
arguments_of (Sym name) = []
arguments_of (Str bytes) = []
arguments_of (Fun name ids) = ids

-- the order of two shapes by all but the values of their arguments
abbrev pub outline_cmp : Shape → Shape → Ordering
outline_cmp (Int m) (Int n) = int_cmp m n
outline_cmp (Sym a) (Sym b) = bytes_cmp a b
outline_cmp (Str s) (Str t) = bytes_cmp s t
outline_cmp (Fun f xs) (Fun g ys) = ordering_then (nat_cmp (length xs) (length ys)) (bytes_cmp f g)
outline_cmp s t = nat_cmp (rank s) (rank t)
