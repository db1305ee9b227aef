use Rattle.literal_parse.proofs.Steps.{exit}
use Rattle.ap_parse.proofs.BodyLemmas.{core_negated, core_aggregate_fails, core_aggregate, core_term_fails, core_term}
use Rattle.ap_parse.proofs.bodies.read_core.Goals as goal

pub returns-then-eat-clause-read : goal.returns-then-eat-clause-read
returns-then-eat-clause-read c = core_negated c.if-eat.ensures c.read_negated.ensures.read

pub returns-in_err-aggregate-clause-read : goal.returns-in_err-aggregate-clause-read
returns-in_err-aggregate-clause-read c = exit c.in_err-aggregate.ensures.read c.from_residual.ensures.1 (core_aggregate_fails c.if-eat.ensures c.if-begins_aggregate.ensures)

pub returns-then-begins_aggregate-clause-read : goal.returns-then-begins_aggregate-clause-read
returns-then-begins_aggregate-clause-read c = core_aggregate c.if-eat.ensures c.if-begins_aggregate.ensures c.in_ok-aggregate.ensures.read

pub returns-in_err-left-clause-read : goal.returns-in_err-left-clause-read
returns-in_err-left-clause-read c = exit c.in_err-left.ensures.read c.from_residual-in_err-left.ensures.1 (core_term_fails c.if-eat.ensures c.if-begins_aggregate.ensures)

pub returns-clause-read : goal.returns-clause-read
returns-clause-read c = core_term c.if-eat.ensures c.if-begins_aggregate.ensures c.in_ok-left.ensures.read c.read_behind.ensures.read
