use Rattle.ap_safety.specs.Conditions.{domains}
use Rattle.ap_safety.proofs.FaultLemmas.{first_domain_if}
use Rattle.ap_safety.proofs.domains.first_indefinite.Goals as goal

pub returns : goal.returns
returns c = first_domain_if c.args.rules.now c.args.safe.now (domains c.args.rules.now c.args.statements.now) c.look_in_all.result c.requires c.look_in_all.ensures
