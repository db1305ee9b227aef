use Rattle.search_law.proofs.FewLemmas.{few}
use Rattle.search_law.proofs.few.plain_clauses_are_few.Goals as goal

pub returns : goal.returns
returns c = λ n cs plain different. few n cs plain different
