use Rattle.std.proofs.Common.{◌≢◌, ℕ, ◌<◌, slice_index_or}
use Rattle.ap_term.specs.declared.shape.TermId.{TermId}
use Rattle.ground_form.proofs.range.are_distinct.Given as goal

abbrev pub invariant-loop-place : goal.invariant-loop-place
invariant-loop-place l =
    (i j : ℕ) (d : TermId) → i < j → j < l.place → (slice_index_or l.atoms i d).0 ≢ (slice_index_or l.atoms j d).0
