use Rattle.std.proofs.Common.{◌≡◌, ◌++◌, drop, flat_map}
use Rattle.pred_graph.specs.Tables.{place_in}
use Rattle.pred_graph.specs.Judged.{open_nodes}
use Rattle.pred_graph.proofs.decided.push_open.Given as goal

abbrev pub invariant-loop-pred : goal.invariant-loop-pred
invariant-loop-pred l = l.initial.nodes ++ flat_map (open_nodes (place_in l.table.keys)) l.preds ≡ l.nodes ++ flat_map (open_nodes (place_in l.table.keys)) (drop l.pred-index l.preds)
