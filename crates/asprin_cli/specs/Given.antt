-- What words and inputs come to before the texts are looked at.
use Rattle.std.specs.Prelude.{ℕ, List, Option, None, Some}
use Rattle.ap_base.specs.Inputs.{Input}
use Rattle.ap_base.specs.Readings.{Reading, AllRead, NotHeld, TooLong, reading_of}
use Rattle.asprin_cli.specs.declared.end.Refusal.{Refusal}
use Rattle.asprin_cli.specs.declared.end.Refusal.TheVariants.{Usage, Bytes}
use Rattle.asprin_cli.specs.Words.{files_of}

-- refused; the texts of the files, in order; or no answer without a fault of the source, since a name is that of no
-- held input
pub data Given : Type 0 where
  Refused : Refusal → Given
  Texts : List (List ℕ) → Given
  Unread : Given

abbrev pub given_by_reading : Reading → Given
given_by_reading (AllRead files) = Texts files
given_by_reading TooLong = Refused Bytes
given_by_reading NotHeld = Unread

abbrev pub given_by_files : Option (List (List ℕ)) → List Input → Given
given_by_files None held = Refused Usage
given_by_files (Some files) held = given_by_reading (reading_of held files 16777216)

-- USAGE stands before all that the source does, and the limit of the bytes of all files together before the texts
abbrev pub given_by : List (List ℕ) → List Input → Given
given_by words held = given_by_files (files_of words) held
