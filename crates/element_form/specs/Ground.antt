-- Preference statements with their ground elements. All is given by its value: a formula by its term, a statement by its name as a
-- constant.
use Rattle.std.specs.Prelude.{◌≡◌, ℕ, ◌+◌, ◌<◌, ◌==◌, ◌-◌, pos, Bool, List, [], ◌∷◌, length, slice_index_or, take, drop, Contains, Option, Some, None, not}
use Rattle.std.specs.List.{prefix_len}
use Rattle.std.specs.Str.{bytes_eq}
use Rattle.ap_term.specs.Value.{Value, integer, constant, compound, Values, none, also}
use Rattle.pref_kinds.specs.declared.built_in.BuiltIn.{BuiltIn}
use Rattle.pref_kinds.specs.Kinds.{text_of}

-- what a rank stands for
pub data Target : Type 0 where
  For : (formula : Value) → Target
  Name : (statement : Value) → Target

-- a rank with its tuple of weights
pub record Ranked : Type 0 where
  pub weights : Values
  pub target : Target

-- the place of the element in its statement, from 1; the values of its variables, in the order of first occurrence; the ranks; what
-- stands after `||`
pub record Ground : Type 0 where
  pub place : ℕ
  pub values : Values
  pub ranks : List Ranked
  pub given : Option Ranked

-- the name, the type as it is written, and the ground elements
pub record Statement : Type 0 where
  pub name : Value
  pub kind : List ℕ
  pub elements : List Ground

-- ---- parts of a statement

-- the pair of an element's place and the tuple of its values
abbrev pub key : Ground → Value
key e = compound [] (also (integer (pos e.place)) (also (compound [] e.values) none))

-- the rank is at this place of the element, counted from 1
abbrev pub IsAt : Ground → ℕ → Ranked → Type 0
IsAt e k r = (i : ℕ) × (k ≡ i + 1) × (i < length e.ranks) × (slice_index_or e.ranks i r ≡ r)

-- the rank is what stands after `||`
abbrev pub IsGiven : Option Ranked → Ranked → Type 0
IsGiven None r = ⊥
IsGiven (Some given) r = r ≡ given

-- what stands after `||`, if anything does
abbrev pub given_list : Option Ranked → List Ranked
given_list None = []
given_list (Some given) = given ∷ []

-- the formula is a rank of some element
abbrev pub HasFormula : Statement → Value → Type 0
HasFormula st f =
    (e : Ground) × (r : Ranked) × Contains st.elements e × Contains e.ranks r × (r.target ≡ For f)

-- the statement is named in a rank of some element
abbrev pub HasName : Statement → Value → Type 0
HasName st q = (e : Ground) × (r : Ranked) × Contains st.elements e × Contains e.ranks r × (r.target ≡ Name q)

-- the formula stands after `||` in some element
abbrev pub HasCondition : Statement → Value → Type 0
HasCondition st f =
    (e : Ground) × (r : Ranked) × Contains st.elements e × IsGiven e.given r × (r.target ≡ For f)

-- ---- the type of a statement

-- whether it is this built-in one
abbrev pub is_of : BuiltIn → Statement → Bool
is_of kind st = bytes_eq st.kind (text_of kind)

-- what stands behind the name of a type: nothing, or another name in parentheses
abbrev pub kind_value : List ℕ → List ℕ → Value
kind_value name [] = constant name
kind_value name (paren ∷ rest) = compound name (also (constant (take (length rest - 1) rest)) none)

-- a type as a value: `subset` is a constant, and `less(weight)` is a compound
abbrev pub kind_term : List ℕ → Value
kind_term text = let end = prefix_len (λ b. not (b == 40)) text in kind_value (take end text) (drop end text)
