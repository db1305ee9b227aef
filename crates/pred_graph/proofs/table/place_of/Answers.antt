use Rattle.std.proofs.Common.{◌∙◌, sym}
use Rattle.pred_graph.specs.Tables.{is_pred}
use Rattle.pred_graph.proofs.PlaceLemmas.{none_place}
use Rattle.pred_graph.proofs.table.place_of.Goals as goal

pub returns-in-None : goal.returns-in-None
returns-in-None c =
    c.len.ensures.len ∙ sym (none_place (is_pred c.args.pred.now) c.args.table.now.keys (sym c.get_index_of.ensures.index ∙ c.in-None.is))
