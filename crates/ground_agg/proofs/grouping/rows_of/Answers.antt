use Rattle.std.proofs.Common.{[], ◌∷◌, ◌++◌, ap, ◌∙◌}
use Rattle.ground_agg.specs.declared.row.TupleRow.{TupleRow}
use Rattle.ground_agg.proofs.RowSteps.{same_step, other_step}
use Rattle.ground_agg.proofs.grouping.rows_of.Goals as goal
use Rattle.ground_agg.proofs.grouping.rows_of.Goals.{then-eq+in_ok-push, else-eq+in_ok-next+in_ok-push-2}

pub loop-pair-preserved : goal.loop-pair-preserved
loop-pair-preserved c =
    elim c.if-eq.branch [
      | then-eq+in_ok-push w ↦
          same_step c.in-Some.rest.now c.loop-pair.pair-index c.pair-item.result c.loop-pair-test.true c.pair-item.is _ c.loop-pair.rows.items c.loop-pair.row c.loop-pair.invariant
          c.if-eq.rows.items c.if-eq.row w.if-eq.ensures (w.row-is ∙ w.in_ok-push.ensures {u = tt}) (ap (λ v. v.items) w.rows-is)
      | else-eq+in_ok-next+in_ok-push-2 w ↦
          other_step c.in-Some.rest.now c.loop-pair.pair-index c.pair-item.result c.loop-pair-test.true c.pair-item.is _ c.loop-pair.rows.items c.loop-pair.row c.loop-pair.invariant
          c.if-eq.rows.items c.if-eq.row w.if-eq.ensures (w.row-is ∙ w.replace.ensures.after ∙ w.in_ok-next.ensures {u = tt})
          (ap (λ v. v.items) w.rows-is ∙ (w.in_ok-push-2.ensures {u = tt}).items ∙ ap (λ (r : TupleRow). c.loop-pair.rows.items ++ r ∷ []) w.replace.ensures.value)
    ]
