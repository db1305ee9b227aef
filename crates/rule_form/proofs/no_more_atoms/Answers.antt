use Rattle.rule_form.proofs.Limits.{not_more}
use Rattle.rule_form.proofs.no_more_atoms.Goals as goal
use Rattle.rule_form.specs.Possible.{IsPossible}

pub returns : goal.returns
returns c = λ st n rows whole short m. not_more n (IsPossible st) rows whole short m
