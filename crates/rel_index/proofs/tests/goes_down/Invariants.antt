use Rattle.std.proofs.Common.{◌≡◌, ℕ, ◌+◌, ◌<◌, slice_index_or}
use Rattle.ap_term.specs.declared.shape.TermId.{TermId as Id}
use Rattle.rel_index.proofs.tests.goes_down.Given as goal

abbrev pub invariant-loop-at : goal.invariant-loop-at
invariant-loop-at l = (k : ℕ) (d : ℕ × Id) → k < l.at → (slice_index_or l.bound k d).0 + k ≡ 4
