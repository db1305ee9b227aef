use Rattle.std.proofs.Common.{◌≡◌, ◌++◌, drop}
use Rattle.pred_graph.specs.Predicates.{preds_of}
use Rattle.pred_graph.proofs.predicates.push_literals.Given as goal

abbrev pub invariant-loop-literal : goal.invariant-loop-literal
invariant-loop-literal l = l.initial.preds ++ preds_of l.literals ≡ l.preds ++ preds_of (drop l.literal-index l.literals)
