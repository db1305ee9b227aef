use Rattle.literal_parse.proofs.Steps.{exit}
use Rattle.pref_parse.proofs.RankLemmas.{ranked_name_fails, ranked_name, ranked_fails, ranked_reads}
use Rattle.pref_parse.proofs.ranked.read_ranked.Goals as goal

pub returns-in_err-name-clause-read : goal.returns-in_err-name-clause-read
returns-in_err-name-clause-read c = exit c.in_err-name.ensures.read c.from_residual.ensures.1 (ranked_name_fails c.if-eat.ensures)

pub returns-then-eat-clause-read : goal.returns-then-eat-clause-read
returns-then-eat-clause-read c = ranked_name c.if-eat.ensures c.in_ok-name.ensures.read c.unweighed.ensures

pub returns-in_err-mixed-clause-read : goal.returns-in_err-mixed-clause-read
returns-in_err-mixed-clause-read c = exit c.in_err-mixed.ensures.read c.from_residual-in_err-mixed.ensures.1 (ranked_fails c.if-eat.ensures)

pub returns-clause-read : goal.returns-clause-read
returns-clause-read c = ranked_reads c.if-eat.ensures c.in_ok-mixed.ensures.read c.read_ranked_rest.ensures.read
