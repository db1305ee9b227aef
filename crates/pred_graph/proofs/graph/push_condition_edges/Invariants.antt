use Rattle.std.proofs.Common.{◌≡◌, ◌++◌, drop, map}
use Rattle.pred_graph.specs.Tables.{place_in}
use Rattle.pred_graph.specs.Graphs.{condition_edge}
use Rattle.pred_graph.proofs.graph.push_condition_edges.Given as goal

abbrev pub invariant-loop-pred : goal.invariant-loop-pred
invariant-loop-pred l = l.initial.edges ++ map (condition_edge (place_in l.table.keys) l.atom) l.preds ≡ l.edges ++ map (condition_edge (place_in l.table.keys) l.atom) (drop l.pred-index l.preds)
