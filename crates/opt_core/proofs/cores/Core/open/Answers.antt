use Rattle.opt_core.proofs.StateLemmas.{taken}
use Rattle.opt_core.proofs.cores.Core.open.Goals as goal

pub invariant_of-self-2 : goal.invariant_of-self-2
invariant_of-self-2 c = taken c.self.inside.met c.add.new.self c.args.set.now c.self.inside.chains c.put.new.self c.args.chain c.in_ok-id.id c.in_ok-id.ensures.ok c.in_ok-id.ensures.id c.put.ensures c.self.invariant
