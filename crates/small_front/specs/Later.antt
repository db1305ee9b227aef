-- What stands in texts and is not in the small language.
use Rattle.std.specs.Prelude.{ℕ, Bool, true, false, not, ◌||◌, List, [], ◌∷◌, Option, None, Some, is_none, if◌then◌else◌}
use Rattle.std.specs.List.{list_any}
use Rattle.std.specs.Str.{bytes_eq}
use Rattle.ap_parse.specs.Openings.{is_of_type}
use Rattle.ap_syntax.specs.declared.programs.Statement.{Statement}
use Rattle.ap_syntax.specs.declared.programs.Statement.TheVariants as statement
use Rattle.small_front.specs.Forms.{small_preference, small_rule}
use Rattle.small_front.specs.declared.place.Place.{Place}

abbrev pub place : ℕ → ℕ → Place
place file at = record { file = file; at = at }

-- ---- forms of the whole language

abbrev pub declares : List ℕ → Statement → Bool
declares name (statement.Preference p) = bytes_eq p.name name
declares name other = false

-- whether some preference statement has this name
abbrev pub is_declared : List Statement → List ℕ → Bool
is_declared ss name = list_any (declares name) ss

abbrev pub place_if : Bool → ℕ → ℕ → Option Place
place_if is_later file at = if is_later then Some (place file at) else None

-- The place of a statement that is of a later form: a rule or a `#preference` that is not small, a `#preference` or
-- `#optimize` behind another one, an `#optimize` of a name that no `#preference` of all the texts has, and a
-- `#program` of a type.
abbrev pub later_place : (all : List Statement) (preferred optimised : Bool) → Statement → Option Place
later_place all preferred optimised (statement.Rule r) = place_if (is_none (small_rule r)) r.file r.at
later_place all preferred optimised (statement.Preference p) =
    place_if (preferred || is_none (small_preference p)) p.file p.at
later_place all preferred optimised (statement.Optimize file at name) =
    place_if (optimised || not (is_declared all name)) file at
later_place all preferred optimised (statement.Part file at kind) = place_if (is_of_type kind) file at
later_place all preferred optimised other = None

abbrev pub is_preference : Statement → Bool
is_preference (statement.Preference p) = true
is_preference other = false

abbrev pub is_optimize : Statement → Bool
is_optimize (statement.Optimize file at name) = true
is_optimize other = false

abbrev pub or_later : Option Place → Option Place → Option Place
or_later (Some found) more = Some found
or_later None more = more

-- the first such place among the statements that are left, where a `#preference` and an `#optimize` came before or
-- did not
abbrev pub later_from : (all : List Statement) (preferred optimised : Bool) → List Statement → Option Place
later_from all preferred optimised [] = None
later_from all preferred optimised (s ∷ ss) =
    or_later (later_place all preferred optimised s)
    (later_from all (preferred || is_preference s) (optimised || is_optimize s) ss)

abbrev pub first_later : List Statement → Option Place
first_later ss = later_from ss false false ss

-- ---- constants

-- the first `#const` of a name that was declared before, among the statements that are left
abbrev pub second_const_from : (declared : List ℕ → Bool) → List Statement → Option Place
second_const_from declared [] = None
second_const_from declared (statement.Const file at name value ∷ ss) =
    if declared name then Some (place file at)
    else second_const_from (λ other. bytes_eq name other || declared other) ss
second_const_from declared (s ∷ ss) = second_const_from declared ss

abbrev pub second_const : List Statement → Option Place
second_const ss = second_const_from (λ name. false) ss
