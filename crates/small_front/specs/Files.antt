-- What the bytes of several files come to.
use Rattle.std.specs.Prelude.{◌≢◌, ℕ, ◌+◌, Bool, false, List, [], ◌∷◌, ◌++◌, length, Ok, Err, if◌then◌else◌}
use Rattle.ap_lexemes.specs.declared.fault.ParseFault.{ParseFault}
use Rattle.ap_lexemes.specs.declared.fault.ParseFault.TheVariants.{Memory}
use Rattle.ap_parse.specs.Openings.{is_of_type}
use Rattle.ap_syntax.specs.declared.programs.PartKind.TheVariants as part
use Rattle.ap_syntax.specs.declared.programs.Program.{Program}
use Rattle.ap_syntax.specs.declared.programs.Statement.{Statement}
use Rattle.ap_syntax.specs.declared.programs.Statement.TheVariants as statement
use Rattle.pref_parse.specs.Readings.{IsReading}

-- whether the part of a type is in force behind some statements, where it was in force before them or not
abbrev pub ends_in_type : (before : Bool) → List Statement → Bool
ends_in_type before [] = before
ends_in_type before (statement.Part file at kind ∷ ss) = ends_in_type (is_of_type kind) ss
ends_in_type before (s ∷ ss) = ends_in_type before ss

-- The statements of a file, which begins in the part `base`, as they stand among those of others: a `#program base.`
-- stands at the end of a file that ends in the part of a type, so no file's part runs on into the next one.
abbrev pub apart : (file end : ℕ) → List Statement → List Statement
apart file end ss = if ends_in_type false ss then ss ++ statement.Part file end part.Base ∷ [] else ss

-- Each of these files, numbered from n on, is the text of a program, and these are the statements of all, in order.
pub data AreRead : (n : ℕ) → List (List ℕ) → List Statement → Type 0 where
  none : {n : ℕ} → AreRead n [] []
  file : {n : ℕ} {bytes : List ℕ} {files : List (List ℕ)} {p : Program} {more : List Statement}
      → IsReading bytes n (Ok p) → AreRead (n + 1) files more
      → AreRead n (bytes ∷ files) (apart n (length bytes) p.statements ++ more)

-- Of these files, numbered from n on, file i is the first that is no text of a program, and this is its fault.
pub data FirstFault : (n : ℕ) → List (List ℕ) → ℕ → ParseFault → Type 0 where
  here : {n : ℕ} {bytes : List ℕ} {files : List (List ℕ)} {fault : ParseFault}
      → IsReading bytes n (Err fault) → fault ≢ Memory → FirstFault n (bytes ∷ files) n fault
  behind : {n : ℕ} {bytes : List ℕ} {files : List (List ℕ)} {p : Program} {i : ℕ} {fault : ParseFault}
      → IsReading bytes n (Ok p) → FirstFault (n + 1) files i fault → FirstFault n (bytes ∷ files) i fault
