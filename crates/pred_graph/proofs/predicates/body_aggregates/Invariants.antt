use Rattle.std.proofs.Common.{◌≡◌, ◌++◌, drop, flat_map}
use Rattle.pred_graph.specs.Predicates.{aggregate_preds}
use Rattle.pred_graph.proofs.predicates.body_aggregates.Given as goal

abbrev pub invariant-loop-item : goal.invariant-loop-item
invariant-loop-item l = l.initial.preds ++ flat_map aggregate_preds l.body ≡ l.preds ++ flat_map aggregate_preds (drop l.item-index l.body)
