use Rattle.literal_parse.proofs.Steps.{exit}
use Rattle.ap_parse.proofs.BodyLemmas.{negated_aggregate_fails, negated_aggregate, negated_term_fails, negated_term}
use Rattle.ap_parse.proofs.bodies.read_negated.Goals as goal

pub returns-in_err-aggregate-clause-read : goal.returns-in_err-aggregate-clause-read
returns-in_err-aggregate-clause-read c = exit c.in_err-aggregate.ensures.read c.from_residual.ensures.1 (negated_aggregate_fails c.if-begins_aggregate.ensures)

pub returns-then-begins_aggregate-clause-read : goal.returns-then-begins_aggregate-clause-read
returns-then-begins_aggregate-clause-read c = negated_aggregate c.if-begins_aggregate.ensures c.in_ok-aggregate.ensures.read

pub returns-in_err-left-clause-read : goal.returns-in_err-left-clause-read
returns-in_err-left-clause-read c = exit c.in_err-left.ensures.read c.from_residual-in_err-left.ensures.1 (negated_term_fails c.if-begins_aggregate.ensures)

pub returns-clause-read : goal.returns-clause-read
returns-clause-read c = negated_term c.if-begins_aggregate.ensures c.in_ok-left.ensures.read c.read_negated_behind.ensures.read
