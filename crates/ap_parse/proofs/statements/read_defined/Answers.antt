use Rattle.grammar.specs.Takes.{Fails}
use Rattle.literal_parse.proofs.Steps.{exit}
use Rattle.ap_parse.proofs.StatementLemmas.{defined_signature_fails, defined_dot_fails, defined_read}
use Rattle.ap_parse.proofs.statements.read_defined.Goals as goal

pub returns-in_err-expect-clause-read : goal.returns-in_err-expect-clause-read
returns-in_err-expect-clause-read c = exit c.in_err-expect.ensures.read c.from_residual.ensures.1 (λ f. Fails.call (Fails.first f))

pub returns-in_err-name-clause-read : goal.returns-in_err-name-clause-read
returns-in_err-name-clause-read c = exit c.in_err-name.ensures.read c.from_residual-in_err-name.ensures.1 (defined_signature_fails c.in_ok-expect.ensures.read)

pub returns-in_err-expect-2-clause-read : goal.returns-in_err-expect-2-clause-read
returns-in_err-expect-2-clause-read c = exit c.in_err-expect-2.ensures.read c.from_residual-in_err-expect-2.ensures.1 (defined_dot_fails c.in_ok-expect.ensures.read c.in_ok-name.ensures.read)

pub returns-clause-read : goal.returns-clause-read
returns-clause-read c = defined_read c.in_ok-expect.ensures.read c.in_ok-name.ensures.read c.in_ok-expect-2.ensures.read
