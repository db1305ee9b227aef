use Rattle.grammar.specs.Takes.{Fails}
use Rattle.literal_parse.proofs.Steps.{exit}
use Rattle.ap_parse.proofs.RuleLemmas.{dot_fails, rest_read}
use Rattle.ap_parse.proofs.rules.read_rest.Goals as goal

pub returns-in_err-body-clause-read : goal.returns-in_err-body-clause-read
returns-in_err-body-clause-read c = exit c.in_err-body.ensures.read c.from_residual.ensures.1 (λ f. Fails.first f)

pub returns-in_err-expect-clause-read : goal.returns-in_err-expect-clause-read
returns-in_err-expect-clause-read c = exit c.in_err-expect.ensures.read c.from_residual-in_err-expect.ensures.1 (dot_fails c.in_ok-body.ensures.read)

pub returns-clause-read : goal.returns-clause-read
returns-clause-read c = rest_read c.in_ok-body.ensures.read c.args.place c.args.head c.in_ok-expect.ensures.read
