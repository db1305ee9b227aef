use Rattle.std.proofs.Common.{sym, ◌∙◌}
use Rattle.opt_core.proofs.ChainLemmas.{at_within}
use Rattle.opt_core.proofs.chains.Chains.open_at.Goals as goal

pub returns-clause-within : goal.returns-clause-within
returns-clause-within c = at_within c.args.self.now c.args.chain c.unwrap.result (sym c.at.ensures ∙ c.unwrap.ensures)
