-- Which of some sets are preferred to others among them.
use Rattle.std.specs.Prelude.{ℕ, List, All, Bool, [], map, IsFalse, Option, None, Some}
use Rattle.ap_eval.specs.AtomSets.{has}
use Rattle.ap_syntax.specs.declared.small.Element.{Element}
use Rattle.ap_syntax.specs.declared.small.Preference.{Preference}
use Rattle.ap_syntax.specs.declared.small.Program.{Program}
use Rattle.small_optima.specs.Preferred.{prefers, satisfies}

-- no set of these is preferred to this one
abbrev pub IsUnbeatenIn : Program → List (List (List ℕ)) → List (List ℕ) → Type 0
IsUnbeatenIn p sets set = All (λ (other : List (List ℕ)). IsFalse (prefers p (has other) (has set))) sets

-- the elements by which sets are compared
abbrev pub elements_of : Option Preference → List Element
elements_of None = []
elements_of (Some preference) = preference.elements

-- which of the elements a set satisfies
abbrev pub marks_of : List Element → List (List ℕ) → List Bool
marks_of elements set = map (satisfies (has set)) elements
