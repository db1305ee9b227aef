use Rattle.std.proofs.Common.{take}
use Rattle.components.specs.Searches.{AreNumbered}
use Rattle.components.proofs.marks.number_nodes.Given as goal

abbrev pub invariant-loop-node : goal.invariant-loop-node
invariant-loop-node l = AreNumbered l.fn.statuses l.statuses (take l.node-index l.nodes) l.number
