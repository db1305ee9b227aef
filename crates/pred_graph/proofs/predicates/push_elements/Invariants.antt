use Rattle.std.proofs.Common.{◌≡◌, ◌++◌, drop, map}
use Rattle.pred_graph.specs.Predicates.{element_pred}
use Rattle.pred_graph.proofs.predicates.push_elements.Given as goal

abbrev pub invariant-loop-element : goal.invariant-loop-element
invariant-loop-element l = l.initial.preds ++ map element_pred l.elements ≡ l.preds ++ map element_pred (drop l.element-index l.elements)
