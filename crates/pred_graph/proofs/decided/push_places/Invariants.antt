use Rattle.std.proofs.Common.{◌≡◌, ◌++◌, drop, map}
use Rattle.pred_graph.specs.Tables.{place_in}
use Rattle.pred_graph.proofs.decided.push_places.Given as goal

abbrev pub invariant-loop-pred : goal.invariant-loop-pred
invariant-loop-pred l = l.initial.nodes ++ map (place_in l.table.keys) l.preds ≡ l.nodes ++ map (place_in l.table.keys) (drop l.pred-index l.preds)
