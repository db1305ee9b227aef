use Rattle.grammar.specs.Takes.{Fails}
use Rattle.literal_parse.proofs.Steps.{exit}
use Rattle.ap_parse.proofs.AggregateLemmas.{braced_fails, close_fails, braced_read}
use Rattle.ap_parse.proofs.aggregates.read_braced.Goals as goal

pub returns-in_err-expect-clause-read : goal.returns-in_err-expect-clause-read
returns-in_err-expect-clause-read c = exit c.in_err-expect.ensures.read c.from_residual.ensures.1 (λ f. Fails.first f)

pub returns-in_err-elements-clause-read : goal.returns-in_err-elements-clause-read
returns-in_err-elements-clause-read c = exit c.in_err-elements.ensures.read c.from_residual-in_err-elements.ensures.1 (braced_fails c.in_ok-expect.ensures.read)

pub returns-in_err-expect-2-clause-read : goal.returns-in_err-expect-2-clause-read
returns-in_err-expect-2-clause-read c = exit c.in_err-expect-2.ensures.read c.from_residual-in_err-expect-2.ensures.1 (close_fails c.in_ok-expect.ensures.read c.in_ok-elements.ensures.read)

pub returns-clause-read : goal.returns-clause-read
returns-clause-read c = braced_read c.in_ok-expect.ensures.read c.in_ok-elements.ensures.read c.in_ok-expect-2.ensures.read
