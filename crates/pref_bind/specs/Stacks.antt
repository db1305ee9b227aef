-- What is known of the preference statements of a program whose names are bound.
use Rattle.std.specs.Prelude.{◌≡◌, ℕ, ◌+◌, Bool, List, [], ◌∷◌, Option, Some, None, map, length, if◌then◌else◌}
use Rattle.std.specs.Option.{option_map}
use Rattle.std.specs.Str.{bytes_eq}
use Rattle.ap_syntax.specs.declared.preferences.Preference.{Preference}
use Rattle.ap_syntax.specs.declared.programs.Statement.{Statement}
use Rattle.ap_syntax.specs.declared.programs.Statement.TheVariants as statement
use Rattle.pref_bind.specs.Bindings.{Bindings}
use Rattle.pref_bind.specs.Naming.{names_in}
use Rattle.program_form.specs.Programs.{preferences}

abbrev pub has_name : List ℕ → Preference → Bool
has_name name p = bytes_eq p.name name

-- the place of the first statement of this name among these, which are counted from k on
abbrev pub place_from : ℕ → List Preference → List ℕ → Option ℕ
place_from k [] name = None
place_from k (p ∷ ps) name = if has_name name p then Some k else place_from (k + 1) ps name

abbrev pub place_in : List Preference → List ℕ → Option ℕ
place_in ps name = place_from 0 ps name

abbrev pub or_count : List Preference → Option ℕ → ℕ
or_count ps (Some place) = place
or_count ps None = length ps

-- the number of the statement of this name: its place; how many statements there are if none has it
abbrev pub number_in : List Preference → List ℕ → ℕ
number_in ps name = or_count ps (place_in ps name)

-- the numbers of the statements that a statement names, in the order of its text
abbrev pub numbers_in : List Preference → Preference → List ℕ
numbers_in ps p = map (number_in ps) (names_in p)

abbrev pub graph_of : List Preference → List (List ℕ)
graph_of ps = map (numbers_in ps) ps

-- the name of the first `#optimize`
abbrev pub optimised_name : List Statement → Option (List ℕ)
optimised_name [] = None
optimised_name (statement.Optimize file at name ∷ ss) = Some name
optimised_name (s ∷ ss) = optimised_name ss

-- which statements each names, and which is optimised
pub record AreBindings (ss : List Statement) (b : Bindings) : Type 0 where
  pub named : b.named ≡ graph_of (preferences ss)
  pub optimised : b.optimised ≡ option_map (number_in (preferences ss)) (optimised_name ss)
