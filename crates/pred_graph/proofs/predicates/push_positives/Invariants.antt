use Rattle.std.proofs.Common.{◌≡◌, ◌++◌, drop}
use Rattle.pred_graph.specs.Predicates.{positives_of}
use Rattle.pred_graph.proofs.predicates.push_positives.Given as goal

abbrev pub invariant-loop-literal : goal.invariant-loop-literal
invariant-loop-literal l = l.initial.preds ++ positives_of l.literals ≡ l.preds ++ positives_of (drop l.literal-index l.literals)
