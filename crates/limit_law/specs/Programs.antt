-- The formulas of a program, and which of them are in bounds.
use Rattle.std.specs.Prelude.{Bool, List, [], ◌∷◌, ◌++◌, flat_map, nat_le, Option, Some, None}
use Rattle.ap_syntax.specs.declared.preferences.Element.{Element}
use Rattle.ap_syntax.specs.declared.preferences.Formula.{Formula}
use Rattle.ap_syntax.specs.declared.preferences.Ranked.{Ranked}
use Rattle.ap_syntax.specs.declared.preferences.Target.{Target}
use Rattle.ap_syntax.specs.declared.preferences.Target.TheVariants as targets
use Rattle.ap_syntax.specs.declared.programs.Statement.{Statement}
use Rattle.ap_syntax.specs.declared.programs.Statement.TheVariants as statements
use Rattle.limit_law.specs.Depths.{depth}

abbrev pub target_formulas : Target → List Formula
target_formulas (targets.For f) = f ∷ []
target_formulas (targets.Name name) = []

abbrev pub ranked_formulas : Ranked → List Formula
ranked_formulas r = target_formulas r.target

abbrev pub given_formulas : Option Ranked → List Formula
given_formulas None = []
given_formulas (Some r) = ranked_formulas r

abbrev pub element_formulas : Element → List Formula
element_formulas e = flat_map ranked_formulas e.ranks ++ given_formulas e.given

abbrev pub statement_formulas : Statement → List Formula
statement_formulas (statements.Preference p) = flat_map element_formulas p.elements
statement_formulas other = []

abbrev pub formulas_of : List Statement → List Formula
formulas_of ss = flat_map statement_formulas ss

abbrev pub is_in_bounds : Formula → Bool
is_in_bounds f = nat_le (depth f) 64
