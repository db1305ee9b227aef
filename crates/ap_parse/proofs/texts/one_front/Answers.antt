use Rattle.ap_parse.proofs.DotLemmas.{one_front}
use Rattle.ap_parse.proofs.texts.one_front.Goals as goal

pub returns : goal.returns
returns c = λ of_type read rest v d. one_front rest d
