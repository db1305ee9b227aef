-- When a reading ends without the bytes.
use Rattle.std.specs.Prelude.{◌≡◌, ℕ, ◌<◌, ◌≤◌, ◌-◌, Bool, List, length, take, IsTrue, Option, IsSomeAnd}
use Rattle.ap_base.specs.Counts.{Rose, counted}
use Rattle.ap_base.specs.Inputs.{Input}
use Rattle.ap_base.specs.Readings.{Reading, TooLong, is_whole, reading_of}
use Rattle.ap_base.specs.declared.reading.ReadFault.{ReadFault}
use Rattle.ap_base.specs.declared.reading.ReadFault.TheVariants.{Source, Bytes, Memory}

-- the source failed, and so many inputs had been opened
pub record FailedAt (opened faults_before faults_now opens_before opens_now : ℕ) : Type 0 where
  pub rose : Rose faults_before faults_now
  pub opens : opens_now ≡ counted opens_before opened

-- A source fault comes where the source's count of faults rose, with the number of opens so far;
-- the limit where the inputs are longer, and no fault came before; want of memory where no fault came before.
abbrev pub ReadFaultCause : (tells : Bool) (reading : Reading) (faults_before faults_now opens_before opens_now : ℕ) → ReadFault → Type 0
ReadFaultCause tells reading before now opens_before opens_now (Source opened) = FailedAt opened before now opens_before opens_now
ReadFaultCause tells reading before now opens_before opens_now Bytes = (now ≡ before) × (IsTrue tells → reading ≡ TooLong)
ReadFaultCause tells reading before now opens_before opens_now Memory = now ≡ before

-- Where the source failed it was at one of these inputs, and those before it had been read whole.
abbrev pub ReadBefore : (tells : Bool) → List Input → List (List ℕ) → ℕ → ReadFault → Type 0
ReadBefore tells held names room (Source opened) = (0 < opened) × (opened ≤ length names) × (IsTrue tells → IsTrue (is_whole (reading_of held (take (opened - 1) names) room)))
ReadBefore tells held names room Bytes = Unit {0}
ReadBefore tells held names room Memory = Unit {0}

-- the same for one input alone, of these bytes or none, that is opened as the one of this number
abbrev pub InputFaultCause : (tells : Bool) (found : Option (List ℕ)) (room number faults_before faults_now : ℕ) → ReadFault → Type 0
InputFaultCause tells found room number before now (Source opened) = (opened ≡ number) × Rose before now
InputFaultCause tells found room number before now Bytes = (now ≡ before) × (IsTrue tells → IsSomeAnd found (λ bytes. room < length bytes))
InputFaultCause tells found room number before now Memory = now ≡ before
