use Rattle.element_form.proofs.Keys.{one_of_key}
use Rattle.element_form.proofs.laws.elements_have_keys.Goals as goal
use Rattle.rule_form.specs.Possible.{IsCertain}

pub returns : goal.returns
returns c setting = one_of_key (IsCertain setting)
