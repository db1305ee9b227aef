use Rattle.std.proofs.Common.{map, ap, ◌∙◌}
use Rattle.rel_index.proofs.Steps.{found_step, passed_step}
use Rattle.rel_index.proofs.selection.select_filtered.Goals as goal
use Rattle.rel_index.proofs.selection.select_filtered.Goals.{then-has_members+in_ok-push, else-has_members}

pub loop-place-preserved : goal.loop-place-preserved
loop-place-preserved c =
    elim c.if-has_members.branch [
      | then-has_members+in_ok-push w ↦
          found_step (map (λ b. b.0) c.args.bound.now) c.args.relation.now.rows c.loop-place.place c.row.result.now c.row.ensures.row (map (λ b. b.1) c.args.bound.now) _ c.loop-place.found.items c.if-has_members.found.items
          c.loop-place.invariant (w.if-has_members.ensures) (ap (λ v. v.items) w.found-is ∙ w.in_ok-push.ensures.items)
      | else-has_members w ↦
          passed_step (map (λ b. b.0) c.args.bound.now) c.args.relation.now.rows c.loop-place.place c.row.result.now c.row.ensures.row (map (λ b. b.1) c.args.bound.now) _ c.loop-place.found.items c.if-has_members.found.items
          c.loop-place.invariant (w.if-has_members.ensures) (ap (λ v. v.items) w.found-is)
    ]
