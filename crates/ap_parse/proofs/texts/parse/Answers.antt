use Rattle.ap_parse.proofs.AnswerLemmas.{reading_memory}
use Rattle.ap_parse.proofs.texts.parse.Goals as goal

pub returns-in_err-tokenized : goal.returns-in_err-tokenized
returns-in_err-tokenized c = reading_memory c.from_residual.ensures.1
