-- The order of tuples and of conditions.
use Rattle.std.specs.Prelude.{List, []}
use Rattle.std.specs.declared.cmp.Ordering.{Ordering}
use Rattle.std.specs.Prelude.{ℤ}
use Rattle.sets.specs.Literals.{literals_cmp}
use Rattle.ap_term.specs.declared.shape.TermId.{TermId}
use Rattle.ap_term.specs.declared.shape.Shape.TheVariants.{Fun}
use Rattle.ap_term.specs.Value.{Value}
use Rattle.ap_term.specs.Order.{value_cmp}
use Rattle.ap_term.specs.Table.{value_of}

-- the value that a tuple is: a compound term with the empty name
abbrev pub tuple_value : List Value → List TermId → Value
tuple_value table ids = value_of table (Fun [] ids)

-- tuples in the order of values: fewer members first, then by the members from first to last
abbrev pub tuple_cmp : List Value → List TermId → List TermId → Ordering
tuple_cmp table s t = value_cmp (tuple_value table s) (tuple_value table t)

-- conditions in the order of lists of literals: literals by their atoms, the positive one first, and lists member by member,
-- a proper prefix first
abbrev pub condition_cmp : List ℤ → List ℤ → Ordering
condition_cmp = literals_cmp
