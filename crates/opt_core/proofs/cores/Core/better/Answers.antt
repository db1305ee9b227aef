use Rattle.opt_core.proofs.StateLemmas.{shut}
use Rattle.opt_core.proofs.cores.Core.better.Goals as goal

pub invariant_of-self-in-Some : goal.invariant_of-self-in-Some
invariant_of-self-in-Some c = shut c.self.inside.met c.self.inside.chains c.put.new.self c.args.chain c.put.ensures c.self.invariant
