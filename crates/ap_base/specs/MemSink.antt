-- A sink in memory.
use Rattle.std.specs.Prelude.{ℕ, Bool, ◌||◌, ◌-◌, ◌^◌, List, [], ◌++◌, take, length, min, nat_le, if◌then◌else◌}
use Rattle.ap_base.specs.Counts.{counted}
use Rattle.ap_base.specs.Fakes.{fails_at}

-- The bytes taken, the most that it takes, the numbers of the calls that fail, the number of the next call,
-- the most bytes that a write takes, and the count of faults.
pub record SinkState : Type 0 where
  pub bytes : List ℕ
  pub room : ℕ
  pub fails : List ℕ
  pub calls : ℕ
  pub piece : ℕ
  pub faults : ℕ

-- nothing was taken, no call was made, and a write takes what there is room for
abbrev pub new_sink : ℕ → List ℕ → SinkState
new_sink room fails = record { bytes = []; room = room; fails = fails; calls = 0; piece = 2 ^ 64 - 1; faults = 0 }

-- the same with one more call
abbrev pub called_sink : SinkState → SinkState
called_sink s = record s { calls = counted s.calls 1 }

-- the same with one more fault
abbrev pub failed_sink : SinkState → SinkState
failed_sink s = record s { faults = counted s.faults 1 }

-- after an open
abbrev pub after_sink_open : SinkState → SinkState
after_sink_open s = if fails_at s.fails s.calls then failed_sink (called_sink s) else called_sink s

-- how many of so many bytes a write takes
abbrev pub taken_of : SinkState → ℕ → ℕ
taken_of s count = min (min count (s.room - length s.bytes)) s.piece

-- whether the next write fails: it is to fail, or there is no room
abbrev pub write_fails : SinkState → Bool
write_fails s = fails_at s.fails s.calls || nat_le s.room (length s.bytes)

-- after a write of these bytes
abbrev pub after_write : SinkState → List ℕ → SinkState
after_write s bytes = if write_fails s then failed_sink (called_sink s) else record (called_sink s) { bytes = s.bytes ++ take (taken_of s (length bytes)) bytes }
