-- What a grounder holds between two components, and what a component adds.
use Rattle.std.specs.Prelude.{◌≡◌, ◌⊎◌, ℕ, ◌<◌, List, All, Contains}
use Rattle.ap_term.specs.Value.{Value}
use Rattle.rule_form.specs.Possible.{Setting, level, MakesPossible, MakesCertain, IsPossible, IsCertain}
use Rattle.rule_form.specs.Trees.{Rule}

-- the rows are possible and certain atoms, and all of those of the components below n
pub record AreAtomsBelow (setting : Setting) (n : ℕ) (rows sure : List Value) : Type 0 where
  pub possible : All (IsPossible setting) rows
  pub certain : All (IsCertain setting) sure
  pub all_possible : (a : Value) → level setting a < n → IsPossible setting a → Contains rows a
  pub all_certain : (a : Value) → level setting a < n → IsCertain setting a → Contains sure a

-- the new rows have the old ones, what was handed in, and each atom of component n that a rule makes possible, or certain, by the old
-- rows alone
pub record IsComponentJoined (setting : Setting) (n : ℕ) (rows sure new_rows new_sure : List Value) : Type 0 where
  pub kept : (a : Value) → Contains rows a → Contains new_rows a
  pub kept_sure : (a : Value) → Contains sure a → Contains new_sure a
  pub handed : (a : Value) → level setting a ≡ n → Contains setting.certain a ⊎ Contains setting.inputs a
      → Contains new_rows a
  pub handed_sure : (a : Value) → level setting a ≡ n → Contains setting.certain a → Contains new_sure a
  pub made : (rule : Rule) (a : Value) → Contains setting.rules rule → level setting a ≡ n
      → MakesPossible setting (Contains rows) (Contains sure) a rule → Contains new_rows a
  pub made_sure : (rule : Rule) (a : Value) → Contains setting.rules rule → level setting a ≡ n
      → MakesCertain setting (Contains rows) (Contains sure) a rule → Contains new_sure a
