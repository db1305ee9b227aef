use Rattle.std.proofs.Common.{◌≡◌, [], drop, flat_map}
use Rattle.indexmap.specs.IndexSet.{insert_all}
use Rattle.pred_graph.specs.Predicates.{rule_preds}
use Rattle.pred_graph.specs.Tables.{is_pred}
use Rattle.pred_graph.proofs.table.table_of.Given as goal

abbrev pub invariant-loop-rule : goal.invariant-loop-rule
invariant-loop-rule l = insert_all is_pred [] (flat_map rule_preds l.rules) ≡ insert_all is_pred l.table.keys (flat_map rule_preds (drop l.rule-index l.rules))
