-- Why a run ends before its listing.
use Rattle.std.specs.Prelude.{◌≡◌, ℕ, Bool, List, [], IsTrue}
use Rattle.ap_base.specs.ReadFaults.{FailedAt}
use Rattle.asprin_cli.specs.Given as given
use Rattle.ap_base.specs.Inputs.{Input}
use Rattle.asprin_cli.specs.Given.{given_by}
use Rattle.ap_base.specs.declared.status.Status.{Status}
use Rattle.ap_base.specs.declared.status.Status.TheVariants as status
use Rattle.asprin_cli.specs.Lines.{line_of, refusal_status}
use Rattle.asprin_cli.specs.Outcomes.{AreRefused, MayFail}
use Rattle.asprin_cli.specs.declared.end.End.TheVariants as ends
use Rattle.asprin_cli.specs.declared.stop.Stop.{Stop}
use Rattle.asprin_cli.specs.declared.stop.Stop.TheVariants.{Source, Refused, Memory}

-- Before there are texts: by the source, with the number of opens; by a refusal of the words or of the bytes; for
-- want of memory. Only the first comes with a fault.
abbrev pub ReadStop : (tells : Bool) (words : List (List ℕ)) (held : List Input)
    (faults_before faults_now opens_before opens_now : ℕ) → Stop → Type 0
ReadStop tells words held before now opens_before opens_now (Source opened) =
    (IsTrue tells → MayFail words held opened) × FailedAt opened before now opens_before opens_now
ReadStop tells words held before now opens_before opens_now (Refused refusal) =
    (now ≡ before) × (IsTrue tells → given_by words held ≡ given.Refused refusal)
ReadStop tells words held before now opens_before opens_now Memory = now ≡ before

-- at texts: by their refusal, or for want of memory
abbrev pub TextsStop : List (List ℕ) → Stop → Type 0
TextsStop files (Source opened) = ⊥
TextsStop files (Refused refusal) = AreRefused files refusal
TextsStop files Memory = Unit {0}

-- what is printed at a stop: no more where memory ran out
abbrev pub stop_line : Stop → List ℕ
stop_line (Source opened) = line_of (ends.Source opened)
stop_line (Refused refusal) = line_of (ends.Refused refusal)
stop_line Memory = []

abbrev pub stop_status : Stop → Status
stop_status (Source opened) = status.Source
stop_status (Refused refusal) = refusal_status refusal
stop_status Memory = status.Memory
