-- Which of two sets of atoms is better under the type `subset`, and which is preferred under a program's `#optimize`
-- (Brewka, Delgrande, Romero and Schaub 2015).
use Rattle.std.specs.Prelude.{ℕ, Bool, false, not, ◌&&◌, ◌||◌, List, [], ◌∷◌, Option, None, Some, if◌then◌else◌}
use Rattle.std.specs.List.{filter_map, list_all}
use Rattle.std.specs.Str.{bytes_eq}
use Rattle.ap_syntax.specs.declared.small.Element.{Element}
use Rattle.ap_syntax.specs.declared.small.Formula.{Formula}
use Rattle.ap_syntax.specs.declared.small.Formula.TheVariants.{Atom}
use Rattle.ap_syntax.specs.declared.small.Preference.{Preference}
use Rattle.ap_syntax.specs.declared.small.Program.{Program}
use Rattle.ap_syntax.specs.declared.small.Statement.{Statement}
use Rattle.ap_syntax.specs.declared.small.Statement.TheVariants as statement
use Rattle.ap_eval.specs.AtomSets.{AtomSet}

abbrev pub formula_true : AtomSet → Formula → Bool
formula_true x (Atom atom) = x atom.name

-- whether x satisfies an element
abbrev pub satisfies : AtomSet → Element → Bool
satisfies x element = formula_true x element.formula

-- y satisfies each of the elements that x satisfies
abbrev pub is_part : List Element → AtomSet → AtomSet → Bool
is_part elements x y = list_all (λ (element : Element). not (satisfies x element) || satisfies y element) elements

-- under `subset` x is better than y where what x satisfies is a proper part of what y satisfies
abbrev pub is_better : List Element → AtomSet → AtomSet → Bool
is_better elements x y = is_part elements x y && not (is_part elements y x)

abbrev pub preference_of : Statement → Option Preference
preference_of (statement.Rule rule) = None
preference_of (statement.Preference preference) = Some preference
preference_of (statement.Optimize name) = None

-- the preference statements of a program
abbrev pub preferences_of : Program → List Preference
preferences_of p = filter_map preference_of p.statements

abbrev pub optimised_by : Statement → Option (List ℕ)
optimised_by (statement.Rule rule) = None
optimised_by (statement.Preference preference) = None
optimised_by (statement.Optimize name) = Some name

-- the names that its `#optimize` statements have
abbrev pub optimised_of : Program → List (List ℕ)
optimised_of p = filter_map optimised_by p.statements

-- the first preference statement of this name
abbrev pub preference_named : List ℕ → List Preference → Option Preference
preference_named name [] = None
preference_named name (preference ∷ preferences) =
    if bytes_eq preference.name name then Some preference else preference_named name preferences

abbrev pub optimised_in : List Preference → List (List ℕ) → Option Preference
optimised_in preferences [] = None
optimised_in preferences (name ∷ names) = preference_named name preferences

-- the preference statement that `#optimize` names
abbrev pub optimised : Program → Option Preference
optimised p = optimised_in (preferences_of p) (optimised_of p)

abbrev pub prefers_by : Option Preference → AtomSet → AtomSet → Bool
prefers_by None x y = false
prefers_by (Some preference) x y = is_better preference.elements x y

-- whether x is preferred to y; without `#optimize` no set is preferred to another
abbrev pub prefers : Program → AtomSet → AtomSet → Bool
prefers p x y = prefers_by (optimised p) x y
