use Rattle.pref_parse.proofs.RankLemmas.{formed_ranked, other_ranked}
use Rattle.pref_parse.proofs.ranked.read_ranked_rest.Goals as goal

pub returns-in-Either-clause-read : goal.returns-in-Either-clause-read
returns-in-Either-clause-read c = rw c.in-Either.is c.read_optional_weights.ensures.read

pub returns-in-Formed-clause-read : goal.returns-in-Formed-clause-read
returns-in-Formed-clause-read c = rw c.in-Formed.is (formed_ranked c.in-Formed.formula c.unweighed.ensures)

pub returns-in-Other-clause-read : goal.returns-in-Other-clause-read
returns-in-Other-clause-read c = rw c.in-Other.is (other_ranked c.read_weighed.ensures.read)
