use Rattle.std.proofs.Common.{sym, subst, IfOk}
use Rattle.components.specs.Graphs.{IsGraph, AreComponentNumbers}
use Rattle.pred_graph.proofs.RowLemmas.{rows_graph, numbered_if}
use Rattle.pred_graph.proofs.rows.numbers_of.Goals as goal

pub components-requires : goal.components-requires
components-requires c =
    subst IsGraph (sym c.as_slice.ensures.value) (rows_graph c.args.nodes c.args.edges.now c.in_ok-rows.rows.items c.in_ok-rows.ensures c.requires)

pub returns : goal.returns
returns c =
    let h = subst (λ rows. IfOk c.components.result (AreComponentNumbers rows)) c.as_slice.ensures.value c.components.ensures in
    numbered_if c.args.nodes c.args.edges.now c.in_ok-rows.rows.items c.in_ok-rows.ensures c.components.result h
