-- Which statements a preference statement names.
use Rattle.std.specs.Prelude.{◌≡◌, ℕ, List, [], ◌∷◌, ◌++◌, flat_map, Contains, Option, Some, None}
use Rattle.ap_syntax.specs.declared.preferences.Element.{Element}
use Rattle.ap_syntax.specs.declared.preferences.Preference.{Preference}
use Rattle.ap_syntax.specs.declared.preferences.Ranked.{Ranked}
use Rattle.ap_syntax.specs.declared.preferences.Target.{Target}
use Rattle.ap_syntax.specs.declared.preferences.Target.TheVariants.{For, Name}

abbrev pub target_names : Target → List (List ℕ)
target_names (For formula) = []
target_names (Name name) = name ∷ []

abbrev pub ranked_names : Ranked → List (List ℕ)
ranked_names ranked = target_names ranked.target

abbrev pub given_names : Option Ranked → List (List ℕ)
given_names None = []
given_names (Some ranked) = ranked_names ranked

abbrev pub element_names : Element → List (List ℕ)
element_names e = flat_map ranked_names e.ranks ++ given_names e.given

-- the names `**q` of the elements of a statement, in the order of its text: of the ranks, and of what stands behind `||`
abbrev pub names_in : Preference → List (List ℕ)
names_in p = flat_map element_names p.elements

-- a statement of the one name names the other
abbrev pub DoesName : List Preference → List ℕ → List ℕ → Type 0
DoesName ps name other = (p : Preference) × Contains ps p × (p.name ≡ name) × Contains (names_in p) other

-- the least transitive relation with this: one reaches another by naming it, or by naming one that reaches it
pub data Reaches (ps : List Preference) (name : List ℕ) : List ℕ → Type 0 where
  named : {other : List ℕ} → DoesName ps name other → Reaches ps name other
  through : {middle other : List ℕ} → Reaches ps name middle → DoesName ps middle other → Reaches ps name other
