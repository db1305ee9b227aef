-- The parts of a program.
use Rattle.std.specs.Prelude.{ℕ, List, map}
use Rattle.std.specs.List.{filter_map}
use Rattle.ap_syntax.specs.declared.programs.Statement.{Statement}
use Rattle.program_form.specs.Programs.{base_rules, other_of, preferences, type_names, type_rules}
use Rattle.program_parts.specs.declared.parts.Parts.{Parts}
use Rattle.program_parts.specs.declared.parts.TypeProgram.{TypeProgram}

abbrev pub type_program : List Statement → List ℕ → TypeProgram
type_program ss name = record { name = name; rules = type_rules ss name }

-- the parts of these statements
abbrev pub parts_of : List Statement → Parts
parts_of ss = record {
  base = base_rules ss;
  kinds = map (type_program ss) (type_names ss);
  preferences = preferences ss;
  others = filter_map other_of ss;
}
