use Rattle.ap_parse.proofs.TextLemmas.{one_answer}
use Rattle.ap_parse.proofs.texts.one_parse.Goals as goal

pub returns : goal.returns
returns c = λ text part r s p q h k. one_answer r s p q h k
