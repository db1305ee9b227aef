use Rattle.std.proofs.Common.{◌≡◌, ◌++◌, drop, flat_map}
use Rattle.pred_graph.specs.Judged.{inner_nodes}
use Rattle.pred_graph.proofs.decided.push_inner.Given as goal

abbrev pub invariant-loop-edge : goal.invariant-loop-edge
invariant-loop-edge l = l.initial.nodes ++ flat_map (inner_nodes l.preds l.numbers) l.edges ≡ l.nodes ++ flat_map (inner_nodes l.preds l.numbers) (drop l.edge-index l.edges)
