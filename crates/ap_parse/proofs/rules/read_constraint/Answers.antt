use Rattle.grammar.specs.Takes.{Fails}
use Rattle.literal_parse.proofs.Steps.{exit, next_takes}
use Rattle.ap_parse.proofs.RuleLemmas.{if_lacking, constraint_dot_fails, constraint_read}
use Rattle.ap_parse.proofs.rules.read_constraint.Goals as goal

pub returns-then-not-eat-clause-read : goal.returns-then-not-eat-clause-read
returns-then-not-eat-clause-read c = if_lacking c.if-not-eat.ensures

pub returns-in_err-body-clause-read : goal.returns-in_err-body-clause-read
returns-in_err-body-clause-read c = exit c.in_err-body.ensures.read c.from_residual.ensures.1 (λ f. Fails.second (next_takes c.if-not-eat.ensures) (Fails.first f))

pub returns-in_err-expect-clause-read : goal.returns-in_err-expect-clause-read
returns-in_err-expect-clause-read c = exit c.in_err-expect.ensures.read c.from_residual-in_err-expect.ensures.1 (constraint_dot_fails c.if-not-eat.ensures c.in_ok-body.ensures.read)

pub returns-clause-read : goal.returns-clause-read
returns-clause-read c = constraint_read c.place-file.result c.place-file.ensures c.if-not-eat.ensures c.in_ok-body.ensures.read c.in_ok-expect.ensures.read
