use Rattle.pred_graph.specs.Graphs.{edge}
use Rattle.pred_graph.proofs.RowLemmas.{rows_step}
use Rattle.pred_graph.proofs.rows.rows_of.Goals as goal

pub loop-edge-preserved : goal.loop-edge-preserved
loop-edge-preserved c =
    rows_step c.args.nodes c.args.edges.now c.loop-edge.edge-index (edge 0 0) c.loop-edge.rows.items c.push_successor.new.rows.items c.loop-edge-test.true c.loop-edge.invariant c.in_ok-push_successor.ensures
