use Rattle.std.proofs.Common.{◌≡◌, ◌-◌, ◌^◌, take, min}
use Rattle.std.specs.Prelude.{sum_by}
use Rattle.ground_form.specs.Ranges.{weight_size}
use Rattle.ground_form.specs.declared.groups.GroupRow.{GroupRow}
use Rattle.ground_form.proofs.range.has_small_sums.Given as goal

abbrev pub invariant-loop-row : goal.invariant-loop-row
invariant-loop-row l = l.sum ≡ min (sum_by (λ (row : GroupRow). weight_size row.weight) (take l.row-index l.rows)) (2 ^ 64 - 1)
