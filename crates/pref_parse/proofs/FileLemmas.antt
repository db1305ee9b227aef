-- What the reading of a file comes to.
use Rattle.std.proofs.Common.{◌≡◌, ℕ, Bool, List, Ok, Err, Result}
use Rattle.std.specs.Result.{IsErrAnd}
use Rattle.ap_syntax.specs.declared.programs.PartKind.{PartKind}
use Rattle.ap_syntax.specs.declared.programs.Program.{Program}
use Rattle.ap_lexemes.specs.declared.fault.ParseFault.{ParseFault}
use Rattle.ap_lexemes.specs.declared.fault.ParseFault.TheVariants.{Memory}
use Rattle.ap_parse.specs.Texts.{IsReading}

pub no_memory : {whole : Bool} {part : PartKind} {bytes : List ℕ} {file : ℕ} (r : Result Program ParseFault) → IsErrAnd r (λ e. e ≡ Memory) → IsReading whole part bytes file r
no_memory (Ok p) h = absurd h
no_memory (Err e) h = rw h IsReading.memory
