-- The statements that reach themselves by naming.
use Rattle.std.specs.Prelude.{◌≡◌, ◌↔◌, ℕ, Bool, List, map, filter, Contains, IsTrue}
use Rattle.ap_syntax.specs.declared.preferences.Preference.{Preference}
use Rattle.pref_bind.specs.Naming.{Reaches}

abbrev pub names_of : List Preference → List (List ℕ)
names_of ps = map (λ (p : Preference). p.name) ps

-- these are the names of the statements that reach themselves, in the order of the texts
pub record AreCyclic (ps : List Preference) (list : List (List ℕ)) : Type 0 where
  pub test : List ℕ → Bool
  pub tells : (p : Preference) → Contains ps p → IsTrue (test p.name) ↔ Reaches ps p.name p.name
  pub list_is : list ≡ filter test (names_of ps)
