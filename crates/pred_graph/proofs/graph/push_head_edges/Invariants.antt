use Rattle.std.proofs.Common.{◌≡◌, ◌++◌, drop, map}
use Rattle.pred_graph.specs.Tables.{place_in}
use Rattle.pred_graph.specs.Graphs.{head_edge}
use Rattle.pred_graph.proofs.graph.push_head_edges.Given as goal

abbrev pub invariant-loop-pred : goal.invariant-loop-pred
invariant-loop-pred l = l.initial.edges ++ map (head_edge (place_in l.table.keys) l.node) l.preds ≡ l.edges ++ map (head_edge (place_in l.table.keys) l.node) (drop l.pred-index l.preds)
