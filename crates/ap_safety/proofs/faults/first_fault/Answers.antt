use Rattle.ap_safety.proofs.FaultLemmas.{first_rule_if}
use Rattle.ap_safety.proofs.faults.first_fault.Goals as goal

pub returns : goal.returns
returns c = first_rule_if c.args.rules.now c.args.safe.now c.args.fault c.look_in_rules.result c.requires c.look_in_rules.ensures
