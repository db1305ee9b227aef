use Rattle.std.proofs.Common.{◌≢◌, ℕ, ◌<◌, slice_index_or}
use Rattle.ap_term.specs.declared.shape.TermId.{TermId}
use Rattle.ground_form.proofs.range.is_new.Given as goal

abbrev pub invariant-loop-i : goal.invariant-loop-i
invariant-loop-i l = (k : ℕ) (d : TermId) → k < l.i → (slice_index_or l.atoms k d).0 ≢ (slice_index_or l.atoms l.place d).0
