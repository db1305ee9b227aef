use Rattle.std.proofs.Common.{◌≡◌, ◌++◌, drop, flat_map}
use Rattle.pred_graph.specs.Predicates.{tuple_preds}
use Rattle.pred_graph.proofs.predicates.push_tuples.Given as goal

abbrev pub invariant-loop-element : goal.invariant-loop-element
invariant-loop-element l = l.initial.preds ++ flat_map tuple_preds l.elements ≡ l.preds ++ flat_map tuple_preds (drop l.element-index l.elements)
