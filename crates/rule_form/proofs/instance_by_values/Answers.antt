use Rattle.rule_form.proofs.Instances.{one_instance}
use Rattle.rule_form.proofs.instance_by_values.Goals as goal

pub returns : goal.returns
returns c = one_instance
