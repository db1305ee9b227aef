use Rattle.ap_lexemes.proofs.OutcomeLemmas.{one_outcome}
use Rattle.ap_lexemes.proofs.laws.one_outcome.Goals as goal

pub returns : goal.returns
returns c = λ n xs end is_cut r s o p. one_outcome r s o p
