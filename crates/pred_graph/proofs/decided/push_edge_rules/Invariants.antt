use Rattle.std.proofs.Common.{◌≡◌, ◌++◌, drop, map}
use Rattle.pred_graph.specs.Judged.{edge_rule}
use Rattle.pred_graph.proofs.decided.push_edge_rules.Given as goal

abbrev pub invariant-loop-edge : goal.invariant-loop-edge
invariant-loop-edge l = l.initial.rules.items ++ map edge_rule l.edges ≡ l.rules.items ++ map edge_rule (drop l.edge-index l.edges)
