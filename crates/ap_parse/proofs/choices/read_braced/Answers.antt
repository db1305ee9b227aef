use Rattle.grammar.specs.Takes.{Fails}
use Rattle.literal_parse.proofs.Steps.{exit, next_takes}
use Rattle.ap_parse.proofs.ChoiceLemmas.{brace_fails, close_fails, braced_read}
use Rattle.ap_parse.proofs.choices.read_braced.Goals as goal

pub returns-then-not-eat-clause-read : goal.returns-then-not-eat-clause-read
returns-then-not-eat-clause-read c = brace_fails c.if-not-eat.ensures

pub returns-in_err-elements-clause-read : goal.returns-in_err-elements-clause-read
returns-in_err-elements-clause-read c = exit c.in_err-elements.ensures.read c.from_residual.ensures.1 (λ f. Fails.second (next_takes c.if-not-eat.ensures) (Fails.first f))

pub returns-in_err-expect-clause-read : goal.returns-in_err-expect-clause-read
returns-in_err-expect-clause-read c = exit c.in_err-expect.ensures.read c.from_residual-in_err-expect.ensures.1 (close_fails c.if-not-eat.ensures c.in_ok-elements.ensures.read)

pub returns-clause-read : goal.returns-clause-read
returns-clause-read c = braced_read c.if-not-eat.ensures c.in_ok-elements.ensures.read c.in_ok-expect.ensures.read
