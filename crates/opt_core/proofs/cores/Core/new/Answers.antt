use Rattle.opt_core.proofs.StateLemmas.{begun}
use Rattle.opt_core.proofs.cores.Core.new.Goals as goal

pub invariant_of-result : goal.invariant_of-result
invariant_of-result c = begun c.new.result c.args.chains c.new-4.result c.new-4.ensures
