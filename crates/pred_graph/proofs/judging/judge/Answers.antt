use Rattle.pred_graph.proofs.JudgeLemmas.{edges_in, nodes_in, judged_of}
use Rattle.pred_graph.proofs.judging.judge.Goals as goal

pub numbers_of-requires : goal.numbers_of-requires
numbers_of-requires c =
    edges_in c.args.rules.now c.in_ok-table.table.keys c.in_ok-size.size c.in_ok-edges.edges c.as_slice.result.now c.in_ok-table.ensures c.in_ok-edges.ensures c.as_slice.ensures c.in_ok-size.ensures

pub leading-requires : goal.leading-requires
leading-requires c = record {
  edges = edges_in c.args.rules.now c.in_ok-table.table.keys c.in_ok-size.size c.in_ok-edges.edges c.as_slice-edge_list.result.now c.in_ok-table.ensures c.in_ok-edges.ensures c.as_slice-edge_list.ensures c.in_ok-size.ensures;
  nodes = nodes_in c.args.rules.now c.args.base c.in_ok-table.table.keys c.in_ok-size.size c.in_ok-edges.edges c.as_slice-edge_list.result.now c.as_slice-number_list.result.now c.in_ok-nodes.nodes c.as_slice-2.result.now
      c.in_ok-table.ensures c.in_ok-edges.ensures c.as_slice-edge_list.ensures c.in_ok-size.ensures c.in_ok-nodes.ensures c.as_slice-2.ensures;
}

pub returns-clause-safe : goal.returns-clause-safe
returns-clause-safe c =
    judged_of c.args.rules.now
    (record { base = c.args.base; preds = c.in_ok-table.table.keys; numbers = c.in_ok-numbers.numbers; indefinite = c.in_ok-indefinite.indefinite }) c.in_ok-size.size c.in_ok-edges.edges
    c.as_slice.result.now c.as_slice-edge_list.result.now c.as_slice-number_list.result.now c.in_ok-nodes.nodes c.as_slice-2.result.now
    c.in_ok-table.ensures c.in_ok-edges.ensures c.as_slice.ensures c.as_slice-edge_list.ensures c.in_ok-size.ensures c.in_ok-numbers.ensures c.as_slice-number_list.ensures c.in_ok-nodes.ensures c.as_slice-2.ensures c.in_ok-indefinite.ensures
