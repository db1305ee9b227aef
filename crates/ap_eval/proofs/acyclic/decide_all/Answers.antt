use Rattle.std.proofs.Common.{take}
use Rattle.definite.specs.Rules.{marked}
use Rattle.ap_eval.proofs.DecisionLemmas.{decided_more}
use Rattle.ap_eval.proofs.acyclic.decide_all.Goals as goal

pub loop-atom-preserved : goal.loop-atom-preserved
loop-atom-preserved c = decided_more c.args.g.now c.args.order.now c.requires.order c.loop-atom.atom-index c.loop-atom-test.true (marked c.args.marks.now) c.loop-atom.marks c.decide.new.marks c.decide.ensures c.loop-atom.invariant
