use Rattle.std.proofs.Common.{◌≡◌, drop}
use Rattle.indexmap.specs.IndexSet.{insert_all}
use Rattle.pred_graph.specs.Tables.{is_pred}
use Rattle.pred_graph.proofs.table.note_all.Given as goal

abbrev pub invariant-loop-pred : goal.invariant-loop-pred
invariant-loop-pred l = insert_all is_pred l.initial.table.keys l.preds ≡ insert_all is_pred l.table.keys (drop l.pred-index l.preds)
