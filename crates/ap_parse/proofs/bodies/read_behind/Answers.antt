use Rattle.literal_parse.proofs.Steps.{exit}
use Rattle.ap_parse.proofs.BodyLemmas.{behind_related, behind_aggregate_fails, behind_aggregate, behind_bare, behind_other}
use Rattle.ap_parse.proofs.bodies.read_behind.Goals as goal

pub returns-in-Some-clause-read : goal.returns-in-Some-clause-read
returns-in-Some-clause-read c = behind_related c.args.left c.in-Some.ensures c.in_ok-left.ensures c.read_related.ensures.read

pub returns-in_err-aggregate-clause-read : goal.returns-in_err-aggregate-clause-read
returns-in_err-aggregate-clause-read c = exit c.in_err-aggregate.ensures.read c.from_residual-in_err-aggregate.ensures.1 (behind_aggregate_fails c.args.left c.in_default.ensures c.if-begins_aggregate.ensures)

pub returns-then-begins_aggregate-clause-read : goal.returns-then-begins_aggregate-clause-read
returns-then-begins_aggregate-clause-read c = rw c.in_ok-new.ensures (behind_aggregate c.args.left c.in_default.ensures c.if-begins_aggregate.ensures c.in_ok-term.ensures c.in_ok-aggregate.ensures.read)

pub returns-in_err-bare-clause-read : goal.returns-in_err-bare-clause-read
returns-in_err-bare-clause-read c = behind_other c.args.left c.in_default.ensures _ c.if-begins_aggregate.ensures c.in_err-bare.ensures c.from_residual-in_err-bare.ensures.1

pub returns-clause-read : goal.returns-clause-read
returns-clause-read c = behind_bare c.args.left c.in_default.ensures c.if-begins_aggregate.ensures c.in_ok-bare.ensures
