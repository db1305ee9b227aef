use Rattle.std.proofs.Common.{ℕ, ◌+◌, ◌<◌, ℤ, slice_index_or}
use Rattle.sets.specs.Literals.{literal_place}
use Rattle.ground_agg.proofs.conditions.are_in_order.Given as goal

abbrev pub invariant-loop-place : goal.invariant-loop-place
invariant-loop-place l =
    (k : ℕ) (d : ℤ) → k + 1 < l.place → literal_place (slice_index_or l.literals k d) < literal_place (slice_index_or l.literals (k + 1) d)
