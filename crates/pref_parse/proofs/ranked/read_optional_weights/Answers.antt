use Rattle.pref_parse.proofs.RankLemmas.{either_ranked, either_unweighed}
use Rattle.pref_parse.proofs.ranked.read_optional_weights.Goals as goal

pub returns-in_ok-first-clause-read : goal.returns-in_ok-first-clause-read
returns-in_ok-first-clause-read c = either_ranked c.args.atom c.if-begins_weights.ensures c.in_ok-first.ensures c.read_weighed.ensures.read

pub returns-else-begins_weights-clause-read : goal.returns-else-begins_weights-clause-read
returns-else-begins_weights-clause-read c = either_unweighed c.args.atom c.if-begins_weights.ensures c.unweighed.ensures
