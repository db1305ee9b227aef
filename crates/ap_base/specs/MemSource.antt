-- A source in memory.
use Rattle.std.specs.Prelude.{ℕ, Bool, true, false, ◌-◌, ◌^◌, List, [], Option, None, Some, map, drop, length, min, slice_get, string_bytes, if◌then◌else◌}
use Rattle.std.specs.Option.{option_map_or}
use Rattle.ap_base.specs.Counts.{counted}
use Rattle.ap_base.specs.Fakes.{fails_at}
use Rattle.ap_base.specs.Inputs.{Input, find_input}
use Rattle.ap_base.specs.declared.mem_source.NamedBytes.{NamedBytes}

-- a named input
abbrev pub input_of : NamedBytes → Input
input_of file = record { name = string_bytes file.name; bytes = file.bytes.items }

abbrev pub inputs_of : List NamedBytes → List Input
inputs_of files = map input_of files

-- the bytes of the file at a place, from one of them on; none where no file is open
abbrev pub left_of : List NamedBytes → Option ℕ → ℕ → List ℕ
left_of files None from = []
left_of files (Some at) from = option_map_or (λ file. drop from file.bytes.items) (slice_get files at) []

-- The inputs, the bytes left of the open one, the numbers of the calls that fail, the number of the next call,
-- the most bytes that a read moves, and the counts of faults, of opens, and of opens of a name that is not there.
pub record SourceState : Type 0 where
  pub inputs : List Input
  pub left : List ℕ
  pub fails : List ℕ
  pub calls : ℕ
  pub piece : ℕ
  pub faults : ℕ
  pub opens : ℕ
  pub absent : ℕ

-- nothing is open, no call was made, and a read moves what the buffer holds
abbrev pub new_source : List Input → List ℕ → SourceState
new_source inputs fails = record { inputs = inputs; left = []; fails = fails; calls = 0; piece = 2 ^ 64 - 1; faults = 0; opens = 0; absent = 0 }

-- the same with one more call
abbrev pub called_source : SourceState → SourceState
called_source s = record s { calls = counted s.calls 1 }

-- the same with one more fault
abbrev pub failed_source : SourceState → SourceState
failed_source s = record s { faults = counted s.faults 1 }

-- after an open that is to fail or not, of an input with these bytes or of none
abbrev pub open_found : Bool → Option (List ℕ) → SourceState → SourceState
open_found fails None s = failed_source (record s { absent = counted s.absent 1 })
open_found true (Some bytes) s = failed_source s
open_found false (Some bytes) s = record s { left = bytes }

-- after an open of this name
abbrev pub after_open : SourceState → List ℕ → SourceState
after_open s name = open_found (fails_at s.fails s.calls) (find_input s.inputs name) (record (called_source s) { opens = counted s.opens 1 })

-- how many bytes a read moves into a buffer of this length
abbrev pub moved : SourceState → ℕ → ℕ
moved s room = min (min (length s.left) room) s.piece

-- after a read into a buffer of this length
abbrev pub after_read : SourceState → ℕ → SourceState
after_read s room = if fails_at s.fails s.calls then failed_source (called_source s) else record (called_source s) { left = drop (moved s room) s.left }
