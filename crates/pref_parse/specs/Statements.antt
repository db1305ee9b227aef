-- What the functions that read preference statements did to the tokens.
use Rattle.std.specs.Prelude.{◌≡◌, List, [], ◌∷◌}
use Rattle.ap_syntax.specs.declared.preferences.Preference.{Preference}
use Rattle.ap_syntax.specs.declared.programs.Statement.TheVariants as statements
use Rattle.ap_grammar.specs.Values.{Value}

abbrev pub IsPreference : Preference → List Value → Type 0
IsPreference p vs = vs ≡ Value.statement (statements.Preference p) ∷ []
