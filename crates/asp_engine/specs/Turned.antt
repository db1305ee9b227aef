-- How a period gives way to the next one.
use Rattle.std.specs.Prelude.{ℕ, ◌+◌, ◌*◌, [], length, if◌then◌else◌, nat_le}
use Rattle.asp_engine.specs.declared.periods.Period.{Period}

-- the next period, where the clauses of this one are those of a whole one
abbrev pub turned : ℕ → Period → Period
turned span p = if nat_le (span * p.number) (length p.learned) then (record { number = p.number + 1; learned = [] }) else p
