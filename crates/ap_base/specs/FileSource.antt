-- A source over files.
use Rattle.std.specs.Prelude.{ℕ}

-- how often the outside failed, and how often a file was opened
pub record FileCounts : Type 0 where
  pub faults : ℕ
  pub opens : ℕ
