use Rattle.std.proofs.Common.{◌+◌, take, subst, sym}
use Rattle.components.specs.Searches.{AreNumbered}
use Rattle.components.proofs.Numbering.{number_more}
use Rattle.components.proofs.marks.number_nodes.Goals as goal

pub loop-node-preserved : goal.loop-node-preserved
loop-node-preserved c =
    subst (λ xs. AreNumbered c.args.statuses.now xs (take (c.loop-node.node-index + 1) c.args.nodes.now) c.args.number) (sym c.set.ensures)
    (number_more c.args.statuses.now c.loop-node.statuses c.args.nodes.now c.loop-node.node-index c.args.number c.loop-node-test.true (c.requires c.loop-node.node-index 0 c.loop-node-test.true) c.loop-node.invariant)
