use Rattle.grammar.specs.Takes.{Fails}
use Rattle.literal_parse.proofs.Steps.{exit}
use Rattle.ap_parse.proofs.AggregateLemmas.{element_fails, element_read}
use Rattle.ap_parse.proofs.aggregates.read_element.Goals as goal

pub returns-in_err-terms-clause-read : goal.returns-in_err-terms-clause-read
returns-in_err-terms-clause-read c = exit c.in_err-terms.ensures.read c.from_residual.ensures.1 (λ f. Fails.call (Fails.first f))

pub returns-in_err-condition-clause-read : goal.returns-in_err-condition-clause-read
returns-in_err-condition-clause-read c = exit c.in_err-condition.ensures.read c.from_residual-in_err-condition.ensures.1 (element_fails c.in_ok-terms.ensures.read)

pub returns-clause-read : goal.returns-clause-read
returns-clause-read c = element_read c.in_ok-terms.ensures.read c.new.ensures.items c.in_ok-condition.ensures.read
