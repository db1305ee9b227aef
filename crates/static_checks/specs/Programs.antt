-- The programs that are judged, each apart from the others.
use Rattle.std.specs.Prelude.{Bool, true, false, List, [], ◌∷◌, map}
use Rattle.ap_syntax.specs.declared.preferences.Preference.{Preference}
use Rattle.ap_syntax.specs.declared.rules.Rule.{Rule}
use Rattle.program_parts.specs.declared.parts.Parts.{Parts}
use Rattle.program_parts.specs.declared.parts.TypeProgram.{TypeProgram}

-- rules, with elements of preference statements, and whether they are those of the base
pub record Judged : Type 0 where
  pub rules : List Rule
  pub elements : List Preference
  pub base : Bool

-- the base with the elements of all statements
abbrev pub base_program : Parts → Judged
base_program parts = record { rules = parts.base; elements = parts.preferences; base = true }

-- the program of a type
abbrev pub type_program : TypeProgram → Judged
type_program kind = record { rules = kind.rules; elements = []; base = false }

abbrev pub programs_of : Parts → List Judged
programs_of parts = base_program parts ∷ map type_program parts.kinds
