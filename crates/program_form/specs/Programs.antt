-- What the statements of a program are: rules of the base or of a type, preference statements, and all else.
use Rattle.std.specs.Prelude.{ℕ, Bool, true, false, List, [], ◌∷◌, ◌++◌, fold, Option, Some, None, if◌then◌else◌}
use Rattle.std.specs.List.{filter_map, list_any}
use Rattle.std.specs.Str.{bytes_eq}
use Rattle.ap_syntax.specs.declared.preferences.Preference.{Preference}
use Rattle.ap_syntax.specs.declared.programs.PartKind.{PartKind}
use Rattle.ap_syntax.specs.declared.programs.PartKind.TheVariants as part
use Rattle.ap_syntax.specs.declared.programs.Statement.{Statement}
use Rattle.ap_syntax.specs.declared.programs.Statement.TheVariants as statement
use Rattle.ap_syntax.specs.declared.rules.Rule.{Rule}

-- ---- rules

-- the rule that a statement is, if the part in force is asked for
abbrev pub rules_here : Bool → Statement → List Rule
rules_here true (statement.Rule r) = r ∷ []
rules_here here s = []

-- whether the part that is asked for is in force behind a statement
abbrev pub next : (asked : PartKind → Bool) → Bool → Statement → Bool
next asked here (statement.Part file at kind) = asked kind
next asked here s = here

-- The rules of a part: those that stand where it is in force. Each `#program` opens another part, up to the next one. At the
-- beginning it is in force or not.
abbrev pub rules_in : (asked : PartKind → Bool) → (here : Bool) → List Statement → List Rule
rules_in asked here [] = []
rules_in asked here (s ∷ ss) = rules_here here s ++ rules_in asked (next asked here s) ss

abbrev pub is_base : PartKind → Bool
is_base part.Base = true
is_base (part.Kind name) = false

abbrev pub is_of : List ℕ → PartKind → Bool
is_of name part.Base = false
is_of name (part.Kind other) = bytes_eq other name

-- the rules of the base, in which a program begins
abbrev pub base_rules : List Statement → List Rule
base_rules ss = rules_in is_base true ss

-- the rules of all parts of a type
abbrev pub type_rules : List Statement → List ℕ → List Rule
type_rules ss name = rules_in (is_of name) false ss

-- ---- types

abbrev pub part_type : Statement → Option (List ℕ)
part_type (statement.Part file at (part.Kind name)) = Some name
part_type other = None

abbrev pub with_name : List (List ℕ) → List ℕ → List (List ℕ)
with_name names name = if list_any (bytes_eq name) names then names else names ++ name ∷ []

-- the types with a part, each once, in the order of their first parts
abbrev pub type_names : List Statement → List (List ℕ)
type_names ss = fold with_name [] (filter_map part_type ss)

-- ---- all else

abbrev pub preference_of : Statement → Option Preference
preference_of (statement.Preference p) = Some p
preference_of other = None

abbrev pub preferences : List Statement → List Preference
preferences ss = filter_map preference_of ss

abbrev pub other_of : Statement → Option Statement
other_of (statement.Rule r) = None
other_of (statement.Preference p) = None
other_of s = Some s
