use Rattle.std.proofs.Common.{◌≡◌, take, pos, neg_ℤ, ◌≤ℤ◌}
use Rattle.std.specs.Prelude.{sum_by}
use Rattle.ground_form.specs.Ranges.{weight_size}
use Rattle.ground_form.specs.Truth as spec
use Rattle.ground_form.specs.declared.groups.GroupRow.{GroupRow}
use Rattle.ap_eval.proofs.truth.rows_sum.Given as goal

abbrev pub invariant-loop-row : goal.invariant-loop-row
invariant-loop-row g l =
    (l.sum ≡ spec.rows_sum (g.X.Membership.test l.x) (take l.row-index l.rows))
    × (neg_ℤ (pos (sum_by (λ (row : GroupRow). weight_size row.weight) (take l.row-index l.rows))) ≤ℤ l.sum)
    × (l.sum ≤ℤ pos (sum_by (λ (row : GroupRow). weight_size row.weight) (take l.row-index l.rows)))
