use Rattle.std.proofs.Common.{◌≢◌, ◌<◌, ℕ, None}
use Rattle.theory_form.specs.Truth.{value_of}
use Rattle.asp_engine.proofs.descent.free_var.Given as goal

abbrev pub invariant-loop-i : goal.invariant-loop-i
invariant-loop-i l = (v : ℕ) → 0 < v → v < l.i → value_of l.a v ≢ None
