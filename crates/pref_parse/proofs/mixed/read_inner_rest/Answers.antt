use Rattle.literal_parse.proofs.Steps.{exit}
use Rattle.pref_parse.proofs.MixedLemmas.{inner_closed, inner_formed, inner_comma_fails, inner_tuple_fails, inner_tuple}
use Rattle.pref_parse.proofs.mixed.read_inner_rest.Goals as goal

pub returns-then-eat-clause-read : goal.returns-then-eat-clause-read
returns-then-eat-clause-read c = inner_closed c.args.inner c.if-eat.ensures

pub returns-in_err-operand-clause-read : goal.returns-in_err-operand-clause-read
returns-in_err-operand-clause-read c = inner_formed c.args.inner _ c.if-eat.ensures c.in_err-operand.ensures c.from_residual.ensures.1

pub returns-in_err-expect-clause-read : goal.returns-in_err-expect-clause-read
returns-in_err-expect-clause-read c = exit c.in_err-expect.ensures.read c.from_residual-in_err-expect.ensures.1 (inner_comma_fails c.args.inner _ c.if-eat.ensures c.in_ok-operand.ensures)

pub returns-in_err-tuple-clause-read : goal.returns-in_err-tuple-clause-read
returns-in_err-tuple-clause-read c = exit c.in_err-tuple.ensures.read c.from_residual-in_err-tuple.ensures.1 (inner_tuple_fails c.if-eat.ensures c.in_ok-expect.ensures.read c.args.inner _ c.in_ok-operand.ensures)

pub returns-clause-read : goal.returns-clause-read
returns-clause-read c = inner_tuple c.if-eat.ensures c.in_ok-expect.ensures.read c.args.inner _ c.in_ok-operand.ensures c.in_ok-first.ensures c.in_ok-tuple.ensures.read
