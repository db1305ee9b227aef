use Rattle.std.proofs.Common.{IsTrue}
use Rattle.rule_form.proofs.Layered.{is_answer}
use Rattle.rule_form.proofs.supported_is_answer_set.Goals as goal

pub returns : goal.returns
returns c = λ rules level facts x atoms layered. is_answer rules level layered (λ a. IsTrue (facts a)) x atoms
