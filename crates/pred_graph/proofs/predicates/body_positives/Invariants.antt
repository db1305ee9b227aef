use Rattle.std.proofs.Common.{◌≡◌, ◌++◌, drop, flat_map}
use Rattle.pred_graph.specs.Predicates.{item_positives}
use Rattle.pred_graph.proofs.predicates.body_positives.Given as goal

abbrev pub invariant-loop-item : goal.invariant-loop-item
invariant-loop-item l = l.initial.preds ++ flat_map item_positives l.body ≡ l.preds ++ flat_map item_positives (drop l.item-index l.body)
