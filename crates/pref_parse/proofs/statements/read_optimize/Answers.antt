use Rattle.grammar.specs.Takes.{Fails}
use Rattle.literal_parse.proofs.Steps.{exit}
use Rattle.ap_parse.proofs.StatementLemmas.{past}
use Rattle.pref_parse.proofs.StatementLemmas.{optimize_read}
use Rattle.pref_parse.proofs.statements.read_optimize.Goals as goal

pub returns-in_err-expect-clause-read : goal.returns-in_err-expect-clause-read
returns-in_err-expect-clause-read c = exit c.in_err-expect.ensures.read c.from_residual.ensures.1 (λ f. Fails.call (Fails.first f))

pub returns-in_err-expect-2-clause-read : goal.returns-in_err-expect-2-clause-read
returns-in_err-expect-2-clause-read c = exit c.in_err-expect-2.ensures.read c.from_residual-in_err-expect-2.ensures.1 (λ f. Fails.call (past c.in_ok-expect.ensures.read (Fails.first f)))

pub returns-in_err-name-clause-read : goal.returns-in_err-name-clause-read
returns-in_err-name-clause-read c = exit c.in_err-name.ensures.read c.from_residual-in_err-name.ensures.1 (λ f. Fails.call (past c.in_ok-expect.ensures.read (past c.in_ok-expect-2.ensures.read (Fails.first f))))

pub returns-in_err-expect-3-clause-read : goal.returns-in_err-expect-3-clause-read
returns-in_err-expect-3-clause-read c = exit c.in_err-expect-3.ensures.read c.from_residual-in_err-expect-3.ensures.1 (λ f. Fails.call (past c.in_ok-expect.ensures.read (past c.in_ok-expect-2.ensures.read (past c.in_ok-name.ensures.read (Fails.first f)))))

pub returns-in_err-expect-4-clause-read : goal.returns-in_err-expect-4-clause-read
returns-in_err-expect-4-clause-read c = exit c.in_err-expect-4.ensures.read c.from_residual-in_err-expect-4.ensures.1 (λ f. Fails.call (past c.in_ok-expect.ensures.read (past c.in_ok-expect-2.ensures.read (past c.in_ok-name.ensures.read (past c.in_ok-expect-3.ensures.read f)))))

pub returns-clause-read : goal.returns-clause-read
returns-clause-read c = optimize_read c.place-place.result c.place-place.ensures c.in_ok-expect.ensures.read c.in_ok-expect-2.ensures.read c.in_ok-name.ensures.read c.in_ok-expect-3.ensures.read c.in_ok-expect-4.ensures.read
