use Rattle.literal_parse.proofs.Steps.{exit}
use Rattle.ap_parse.proofs.BodyLemmas.{related_aggregate_fails, related_aggregate, related_term_fails, related_term}
use Rattle.ap_parse.proofs.bodies.read_related.Goals as goal

pub returns-in_err-aggregate-clause-read : goal.returns-in_err-aggregate-clause-read
returns-in_err-aggregate-clause-read c = exit c.in_err-aggregate.ensures.read c.from_residual.ensures.1 (related_aggregate_fails c.args.left c.args.rel c.if-begins_aggregate.ensures)

pub returns-then-begins_aggregate-clause-read : goal.returns-then-begins_aggregate-clause-read
returns-then-begins_aggregate-clause-read c = rw c.in_ok-new.ensures (related_aggregate c.args.left c.args.rel c.if-begins_aggregate.ensures c.in_ok-aggregate.ensures.read)

pub returns-in_err-right-clause-read : goal.returns-in_err-right-clause-read
returns-in_err-right-clause-read c = exit c.in_err-right.ensures.read c.from_residual-in_err-right.ensures.1 (related_term_fails c.args.left c.args.rel c.if-begins_aggregate.ensures)

pub returns-clause-read : goal.returns-clause-read
returns-clause-read c = rw (c.in_ok-left.ensures, c.in_ok-right-2.ensures) (related_term c.args.left c.args.rel c.if-begins_aggregate.ensures c.in_ok-right.ensures.read)
