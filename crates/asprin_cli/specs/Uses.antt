-- What a run did with a source and with a sink, as contracts see them.
use Rattle.std.specs.Prelude.{ℕ, Bool, List}
use Rattle.ap_base.specs.Inputs.{Input}

-- A source: whether it tells and what it holds; and before and now its counts of faults, of opens, and of opens of a
-- name that is not held.
pub record SourceUse : Type 0 where
  pub tells : Bool
  pub held : List Input
  pub faults_before : ℕ
  pub faults_now : ℕ
  pub opens_before : ℕ
  pub opens_now : ℕ
  pub absent_before : ℕ
  pub absent_now : ℕ

-- A sink: whether it tells; and before and now the bytes that it took, and its count of faults.
pub record SinkUse : Type 0 where
  pub tells : Bool
  pub taken_before : List ℕ
  pub taken_now : List ℕ
  pub faults_before : ℕ
  pub faults_now : ℕ
