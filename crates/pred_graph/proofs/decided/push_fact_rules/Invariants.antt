use Rattle.std.proofs.Common.{◌≡◌, ◌++◌, drop, map}
use Rattle.pred_graph.specs.Judged.{fact_rule}
use Rattle.pred_graph.proofs.decided.push_fact_rules.Given as goal

abbrev pub invariant-loop-node : goal.invariant-loop-node
invariant-loop-node l = l.initial.rules.items ++ map fact_rule l.nodes ≡ l.rules.items ++ map fact_rule (drop l.node-index l.nodes)
