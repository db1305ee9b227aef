-- The numbers of statements, by their names.
use Rattle.std.specs.Prelude.{◌≡◌, ℕ, List, Option}
use Rattle.std.specs.HashMap.{get_by_text}
use Rattle.ap_syntax.specs.declared.preferences.Preference.{Preference}
use Rattle.pref_bind.specs.Stacks.{place_in}
use Rattle.pref_bind.specs.declared.table.Table.{Table}

abbrev pub place_by : Table → List ℕ → Option ℕ
place_by table name = get_by_text table.numbers name

-- each name of these statements has the place of the first of them
abbrev pub IsTableOf : List Preference → Table → Type 0
IsTableOf ps table = (name : List ℕ) → place_by table name ≡ place_in ps name
