use Rattle.grammar.specs.Takes.{Fails}
use Rattle.literal_parse.proofs.Steps.{exit}
use Rattle.literal_parse.proofs.LiteralLemmas.{condition_literals, condition_empty}
use Rattle.literal_parse.proofs.literals.read_condition.Goals as goal

pub returns-in_err-expect-clause-read : goal.returns-in_err-expect-clause-read
returns-in_err-expect-clause-read c = exit c.in_err-expect.ensures.read c.from_residual.ensures.1 (λ f. Fails.call (Fails.first f))

pub returns-then-begins_literals-clause-read : goal.returns-then-begins_literals-clause-read
returns-then-begins_literals-clause-read c = condition_literals c.in_ok-expect.ensures.read c.if-begins_literals.ensures c.read_literals.ensures.read

pub returns-else-begins_literals-clause-read : goal.returns-else-begins_literals-clause-read
returns-else-begins_literals-clause-read c = condition_empty c.in_ok-expect.ensures.read c.if-begins_literals.ensures c.new.ensures
