-- How a table is kept: the outermost levels of its values with their depths, each behind its arguments.
use Rattle.std.specs.Prelude.{◌≡◌, ℕ, ◌≤◌, ⊤, List, [], ◌∷◌, ◌++◌, Contains}
use Rattle.ap_term.specs.Value.{Value, depth}
use Rattle.ap_term.specs.Table.{value_of, IsShapeOver}
use Rattle.ap_term.specs.declared.shape.Shape.{Shape}

-- an entry of a table: a shape, and the depth of its value
abbrev pub Entry : Type 0
Entry = Shape × ℕ

-- the values of a list of entries, each shape read over those before it
abbrev pub values_from : List Value → List Entry → List Value
values_from table [] = table
values_from table (e ∷ es) = values_from (table ++ value_of table e.0 ∷ []) es

-- an entry that may follow the entries of a table: its arguments stand before it, its value is new and at most 128 deep
pub record IsNext (table : List Value) (e : Entry) : Type 0 where
  pub over : IsShapeOver table e.0
  pub new : Contains table (value_of table e.0) → ⊥
  pub depth_is : e.1 ≡ depth (value_of table e.0)
  pub shallow : e.1 ≤ 128

-- each entry may follow those before it
abbrev pub IsBuilt : List Value → List Entry → Type 0
IsBuilt table [] = ⊤
IsBuilt table (e ∷ es) = IsNext table e × IsBuilt (table ++ value_of table e.0 ∷ []) es
