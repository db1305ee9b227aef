use Rattle.grammar.specs.Takes.{Fails}
use Rattle.literal_parse.proofs.Steps.{exit}
use Rattle.ap_parse.proofs.StatementLemmas.{past, show_read}
use Rattle.ap_parse.proofs.statements.read_show.Goals as goal

pub returns-in_err-expect-clause-read : goal.returns-in_err-expect-clause-read
returns-in_err-expect-clause-read c = exit c.in_err-expect.ensures.read c.from_residual.ensures.1 (λ f. Fails.call (Fails.first f))

pub returns-in_err-shown-clause-read : goal.returns-in_err-shown-clause-read
returns-in_err-shown-clause-read c = exit c.in_err-shown.ensures.read c.from_residual-in_err-shown.ensures.1 (λ f. Fails.call (past c.in_ok-expect.ensures.read (Fails.first f)))

pub returns-in_err-expect-2-clause-read : goal.returns-in_err-expect-2-clause-read
returns-in_err-expect-2-clause-read c = exit c.in_err-expect-2.ensures.read c.from_residual-in_err-expect-2.ensures.1 (λ f. Fails.call (past c.in_ok-expect.ensures.read (past c.in_ok-shown.ensures.read f)))

pub returns-clause-read : goal.returns-clause-read
returns-clause-read c = show_read c.in_ok-expect.ensures.read c.in_ok-shown.ensures.read c.in_ok-expect-2.ensures.read
