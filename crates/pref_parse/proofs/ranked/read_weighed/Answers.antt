use Rattle.grammar.specs.Takes.{Fails}
use Rattle.literal_parse.proofs.Steps.{exit}
use Rattle.pref_parse.proofs.RankLemmas.{sign_fails, target_fails, weighed_read}
use Rattle.pref_parse.proofs.ranked.read_weighed.Goals as goal

pub returns-in_err-weights-clause-read : goal.returns-in_err-weights-clause-read
returns-in_err-weights-clause-read c = exit c.in_err-weights.ensures.read c.from_residual.ensures.1 (λ f. Fails.first f)

pub returns-in_err-expect-clause-read : goal.returns-in_err-expect-clause-read
returns-in_err-expect-clause-read c = exit c.in_err-expect.ensures.read c.from_residual-in_err-expect.ensures.1 (sign_fails c.in_ok-weights.ensures.read)

pub returns-in_err-target-clause-read : goal.returns-in_err-target-clause-read
returns-in_err-target-clause-read c = exit c.in_err-target.ensures.read c.from_residual-in_err-target.ensures.1 (target_fails c.in_ok-weights.ensures.read c.in_ok-expect.ensures.read)

pub returns-clause-read : goal.returns-clause-read
returns-clause-read c = weighed_read c.in_ok-weights.ensures.read c.in_ok-expect.ensures.read c.in_ok-target.ensures.read
