use Rattle.ap_lexemes.proofs.TokenizingLemmas.{one_list}
use Rattle.ap_lexemes.proofs.laws.one_list.Goals as goal

pub returns : goal.returns
returns c = λ bytes file xs ys end place a b. one_list a b
