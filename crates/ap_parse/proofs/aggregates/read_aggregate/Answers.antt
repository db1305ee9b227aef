use Rattle.grammar.specs.Takes.{Fails}
use Rattle.literal_parse.proofs.Steps.{exit}
use Rattle.ap_parse.proofs.AggregateLemmas.{aggregate_braces_fail, aggregate_guard_fails, aggregate_read}
use Rattle.ap_parse.proofs.aggregates.read_aggregate.Goals as goal

pub returns-in_err-function-clause-read : goal.returns-in_err-function-clause-read
returns-in_err-function-clause-read c = exit c.in_err-function.ensures.read c.from_residual.ensures.1 (λ f. Fails.first (Fails.call (Fails.first f)))

pub returns-in_err-elements-clause-read : goal.returns-in_err-elements-clause-read
returns-in_err-elements-clause-read c = exit c.in_err-elements.ensures.read c.from_residual-in_err-elements.ensures.1 (aggregate_braces_fail c.in_ok-function.ensures.read)

pub returns-in_err-right-clause-read : goal.returns-in_err-right-clause-read
returns-in_err-right-clause-read c = exit c.in_err-right.ensures.read c.from_residual-in_err-right.ensures.1 (aggregate_guard_fails c.in_ok-function.ensures.read c.in_ok-elements.ensures.read)

pub returns-clause-read : goal.returns-clause-read
returns-clause-read c = aggregate_read c.in_ok-function.ensures.read c.in_ok-elements.ensures.read c.in_ok-right.ensures.read
