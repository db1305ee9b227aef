-- A table of values, in which an id is a place.
use Rattle.std.specs.Prelude.{◌≡◌, ◌<◌, ◌≤◌, ⊤, pos, List, [], ◌∷◌, ◌++◌, map, length, All, slice_index_or, if◌then◌else◌}
use Rattle.std.specs.List.{list_any}
use Rattle.std.specs.Ordering.{is_eq}
use Rattle.ap_term.specs.Value.{Value, integer, constant, string, compound, arguments_from, IsInteger}
use Rattle.ap_term.specs.Order.{value_cmp}
use Rattle.ap_term.specs.declared.shape.Shape.{Shape}
use Rattle.ap_term.specs.declared.shape.Shape.TheVariants.{Int, Sym, Str, Fun}
use Rattle.ap_term.specs.declared.shape.TermId.{TermId}

-- the id is one of this table
abbrev pub IsIdOf : List Value → TermId → Type 0
IsIdOf table id = id.0 < length table

-- the value of an id of the table; of another number nothing is meant, and it reads as 0
abbrev pub value_at : List Value → TermId → Value
value_at table id = slice_index_or table id.0 (integer (pos 0))

-- the value of a shape whose arguments are ids of the table
abbrev pub value_of : List Value → Shape → Value
value_of table (Int n) = integer n
value_of table (Sym name) = constant name
value_of table (Str bytes) = string bytes
value_of table (Fun name ids) = compound name (arguments_from (map (value_at table) ids))

-- what a shape has to meet: its arguments are ids of the table, and an integer is in range
abbrev pub IsShapeOver : List Value → Shape → Type 0
IsShapeOver table (Int n) = IsInteger n
IsShapeOver table (Sym name) = ⊤
IsShapeOver table (Str bytes) = ⊤
IsShapeOver table (Fun name ids) = All (IsIdOf table) ids

-- the table with the value in it: the same table where it has the value, and else with the value at its end
abbrev pub insert_value : List Value → Value → List Value
insert_value table v = if list_any (λ w. is_eq (value_cmp v w)) table then table else table ++ v ∷ []

-- each id of the old table is one of the new table, with the same value
pub record KeepsIds (old new : List Value) : Type 0 where
  pub longer : length old ≤ length new
  pub same : (id : TermId) → IsIdOf old id → value_at new id ≡ value_at old id

-- one id for each value
abbrev pub HasDistinctValues : List Value → Type 0
HasDistinctValues table = (a b : TermId) → IsIdOf table a → IsIdOf table b → value_at table a ≡ value_at table b → a ≡ b
