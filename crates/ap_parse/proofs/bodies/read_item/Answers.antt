use Rattle.grammar.specs.Takes.{Fails}
use Rattle.ap_parse.proofs.BodyLemmas.{item_exit, item_aggregate, item_plain, item_condition_fails, item_conditional, item_memory}
use Rattle.ap_parse.proofs.bodies.read_item.Goals as goal

pub returns-in_err-literal-clause-read : goal.returns-in_err-literal-clause-read
returns-in_err-literal-clause-read c = item_exit c.in_err-literal.ensures.read c.from_residual.ensures.1 (λ f. Fails.call (Fails.start f))

pub returns-in-Aggregate-clause-read : goal.returns-in-Aggregate-clause-read
returns-in-Aggregate-clause-read c = rw c.in_ok-new-in-Aggregate.ensures (item_aggregate c.in_ok-literal.ensures.read c.in-Aggregate.is)

pub returns-then-not-sees-clause-read : goal.returns-then-not-sees-clause-read
returns-then-not-sees-clause-read c = item_plain c.in_ok-literal.ensures.read c.in-Literal.is c.if-not-sees.ensures

pub returns-in_err-condition-clause-read : goal.returns-in_err-condition-clause-read
returns-in_err-condition-clause-read c = item_exit c.in_err-condition.ensures.read c.from_residual-in_err-condition.ensures.1 (item_condition_fails c.in_ok-literal.ensures.read c.in-Literal.is c.if-not-sees.ensures)

pub returns-clause-read : goal.returns-clause-read
returns-clause-read c = rw c.in_ok-new.ensures (item_conditional c.in_ok-literal.ensures.read c.in-Literal.is c.place-place.result c.place-place.ensures c.if-not-sees.ensures c.in_ok-condition.ensures.read)

pub returns-in_err-new-in-Aggregate-clause-read : goal.returns-in_err-new-in-Aggregate-clause-read
returns-in_err-new-in-Aggregate-clause-read c = item_memory c.from_residual-in_err-new-in-Aggregate.ensures.1

pub returns-in_err-new-clause-read : goal.returns-in_err-new-clause-read
returns-in_err-new-clause-read c = item_memory c.from_residual-in_err-new.ensures.1
