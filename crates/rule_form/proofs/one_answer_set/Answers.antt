use Rattle.std.proofs.Common.{IsTrue}
use Rattle.rule_form.proofs.Layered.{one_answer}
use Rattle.rule_form.proofs.one_answer_set.Goals as goal

pub returns : goal.returns
returns c = λ rules level facts x y layered. one_answer rules level layered (λ a. IsTrue (facts a)) x y
