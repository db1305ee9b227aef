-- Conditions that are looked at one after another, each with its cause. What comes out is nothing where all of them hold,
-- and else the cause of the first that fails.
use Rattle.std.specs.Prelude.{◌≡◌, Option, Some, None, ◌⊎◌}
use Rattle.proof_log.specs.declared.causes.Cause.{Cause}

-- there is no condition left
abbrev pub Passes : Option Cause → Type 0
Passes None = Unit {0}
Passes (Some first) = ⊥

-- a condition with its cause, and then the others
abbrev pub Asks : Cause → Type 0 → (Option Cause → Type 0) → Option Cause → Type 0
Asks own Holds others None = Holds × others None
Asks own Holds others (Some first) = ((Holds → ⊥) × (first ≡ own)) ⊎ (Holds × others (Some first))
