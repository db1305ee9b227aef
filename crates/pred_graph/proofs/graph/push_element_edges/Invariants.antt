use Rattle.std.proofs.Common.{◌≡◌, ◌++◌, drop, flat_map}
use Rattle.pred_graph.specs.Tables.{place_in}
use Rattle.pred_graph.specs.Graphs.{element_edges}
use Rattle.pred_graph.proofs.graph.push_element_edges.Given as goal

abbrev pub invariant-loop-element : goal.invariant-loop-element
invariant-loop-element l = l.initial.edges ++ flat_map (element_edges (place_in l.table.keys)) l.elements ≡ l.edges ++ flat_map (element_edges (place_in l.table.keys)) (drop l.element-index l.elements)
