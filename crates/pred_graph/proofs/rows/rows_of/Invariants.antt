use Rattle.std.proofs.Common.{take}
use Rattle.pred_graph.specs.Graphs.{AreRows}
use Rattle.pred_graph.proofs.rows.rows_of.Given as goal

abbrev pub invariant-loop-edge : goal.invariant-loop-edge
invariant-loop-edge l = AreRows l.nodes (take l.edge-index l.edges) l.rows.items
