use Rattle.std.proofs.Common.{◌≡◌, ◌++◌, drop, length}
use Rattle.pred_graph.specs.Tables.{place_in}
use Rattle.pred_graph.specs.Graphs.{edges_from}
use Rattle.pred_graph.proofs.graph.edges_of.Given as goal

abbrev pub invariant-loop-rule : goal.invariant-loop-rule
invariant-loop-rule l = edges_from (place_in l.table.keys) (length l.table.keys) l.rules ≡ l.edges ++ edges_from (place_in l.table.keys) l.node (drop l.rule-index l.rules)
