use Rattle.std.proofs.Common.{◌≡◌, ◌<◌, ℕ, Bool}
use Rattle.loop_nogoods.specs.Unfounded.{IsUnfounded}
use Rattle.asp_engine.proofs.loops.find_loop.Given as goal

abbrev pub invariant-loop-block : goal.invariant-loop-block
invariant-loop-block l =
    (l.marks ≡ l.initial.marks) × ((b : ℕ) → b < l.block → (u : ℕ → Bool) → IsUnfounded l.t b l.a u → ⊥)
