use Rattle.std.proofs.Common.{◌≡◌, ◌++◌, drop, flat_map}
use Rattle.pred_graph.specs.Tables.{place_in}
use Rattle.pred_graph.specs.Judged.{choice_nodes}
use Rattle.pred_graph.proofs.decided.push_choices.Given as goal

abbrev pub invariant-loop-rule : goal.invariant-loop-rule
invariant-loop-rule l = l.initial.nodes ++ flat_map (choice_nodes (place_in l.table.keys)) l.rules ≡ l.nodes ++ flat_map (choice_nodes (place_in l.table.keys)) (drop l.rule-index l.rules)
