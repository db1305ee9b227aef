use Rattle.grammar.specs.Takes.{Fails}
use Rattle.literal_parse.proofs.Steps.{exit}
use Rattle.ap_parse.proofs.StatementLemmas.{past, signature_read}
use Rattle.ap_parse.proofs.statements.read_signature.Goals as goal

pub returns-in_err-name-clause-read : goal.returns-in_err-name-clause-read
returns-in_err-name-clause-read c = exit c.in_err-name.ensures.read c.from_residual.ensures.1 (λ f. Fails.first f)

pub returns-in_err-expect-clause-read : goal.returns-in_err-expect-clause-read
returns-in_err-expect-clause-read c = exit c.in_err-expect.ensures.read c.from_residual-in_err-expect.ensures.1 (λ f. past c.in_ok-name.ensures.read (Fails.first f))

pub returns-in_err-arity-clause-read : goal.returns-in_err-arity-clause-read
returns-in_err-arity-clause-read c = exit c.in_err-arity.ensures.read c.from_residual-in_err-arity.ensures.1 (λ f. past c.in_ok-name.ensures.read (past c.in_ok-expect.ensures.read f))

pub returns-clause-read : goal.returns-clause-read
returns-clause-read c = signature_read c.in_ok-name.ensures.read c.in_ok-expect.ensures.read c.in_ok-arity.ensures.read
