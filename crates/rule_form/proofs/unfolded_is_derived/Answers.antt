use Rattle.rule_form.proofs.Unfolds.{gives, given}
use Rattle.rule_form.proofs.unfolded_is_derived.Goals as goal

pub returns : goal.returns
returns c = λ rules x a. (gives x rules a, given x rules a)
