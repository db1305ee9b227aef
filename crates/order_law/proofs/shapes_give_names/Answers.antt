use Rattle.order_law.proofs.Names.{named, named_only}
use Rattle.order_law.proofs.shapes_give_names.Goals as goal
use Rattle.rule_form.specs.Possible.{IsCertain}

pub returns-clause-both : goal.returns-clause-both
returns-clause-both c setting p st is well grounded = named (IsCertain setting) p st well grounded is

pub returns-clause-neg : goal.returns-clause-neg
returns-clause-neg c setting p st is well grounded = named_only (IsCertain setting) p st well grounded is
