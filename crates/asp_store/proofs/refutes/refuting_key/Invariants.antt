use Rattle.std.proofs.Common.{◌<◌, ℕ, get_or}
use Rattle.asp_store.specs.Watch.{IsRefutingAt}
use Rattle.asp_store.proofs.refutes.refuting_key.Given as goal

abbrev pub invariant-loop-key : goal.invariant-loop-key
invariant-loop-key l = (k d : ℕ) → k < l.key-index → IsRefutingAt l.clauses.slots l.assume (get_or l.keys k d) → ⊥
