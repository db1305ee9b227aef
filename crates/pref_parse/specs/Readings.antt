-- What the bytes of a file come to.
use Rattle.std.specs.Prelude.{ℕ, true, List, Result}
use Rattle.ap_syntax.specs.declared.programs.PartKind.TheVariants as parts
use Rattle.ap_syntax.specs.declared.programs.Program.{Program}
use Rattle.ap_lexemes.specs.declared.fault.ParseFault.{ParseFault}
use Rattle.ap_parse.specs.Texts as texts

-- The program of a file that may have preference statements and begins in the base part, its first fault, or want of memory.
abbrev pub IsReading : List ℕ → ℕ → Result Program ParseFault → Type 0
IsReading bytes file result = texts.IsReading true parts.Base bytes file result
