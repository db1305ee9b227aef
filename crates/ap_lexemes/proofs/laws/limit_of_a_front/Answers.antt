use Rattle.ap_lexemes.proofs.LimitLemmas.{front-first, same-first}
use Rattle.ap_lexemes.proofs.laws.limit_of_a_front.Goals as goal

pub returns-clause-same : goal.returns-clause-same
returns-clause-same c = λ front rest other l e le. same-first front rest other l e le

pub returns-clause-before : goal.returns-clause-before
returns-clause-before c = λ front rest l e le. front-first front rest l e le
