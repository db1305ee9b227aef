use Rattle.ap_parse.proofs.TextLemmas.{one_answer}
use Rattle.pref_parse.proofs.files.one_reading.Goals as goal

pub returns : goal.returns
returns c = λ bytes file r s p q h k. one_answer r s p q h k
