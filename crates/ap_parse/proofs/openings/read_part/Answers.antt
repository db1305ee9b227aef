use Rattle.grammar.specs.Takes.{Fails}
use Rattle.literal_parse.proofs.Steps.{exit}
use Rattle.ap_parse.proofs.StatementLemmas.{past}
use Rattle.ap_parse.proofs.OpeningLemmas.{base_dot_fails, base_part, type_part_fails, type_part}
use Rattle.ap_parse.proofs.openings.read_part.Goals as goal

pub returns-in_err-expect-clause-read : goal.returns-in_err-expect-clause-read
returns-in_err-expect-clause-read c = exit c.in_err-expect.ensures.read c.from_residual.ensures.1 (base_dot_fails c.if-eat.ensures)

pub returns-then-eat-clause-read : goal.returns-then-eat-clause-read
returns-then-eat-clause-read c = base_part c.if-eat.ensures c.in_ok-expect.ensures.read

pub returns-in_err-expect-2-clause-read : goal.returns-in_err-expect-2-clause-read
returns-in_err-expect-2-clause-read c = exit c.in_err-expect-2.ensures.read c.from_residual-in_err-expect-2.ensures.1 (λ f. type_part_fails c.if-eat.ensures (Fails.first f))

pub returns-in_err-expect-3-clause-read : goal.returns-in_err-expect-3-clause-read
returns-in_err-expect-3-clause-read c = exit c.in_err-expect-3.ensures.read c.from_residual-in_err-expect-3.ensures.1 (λ f. type_part_fails c.if-eat.ensures (past c.in_ok-expect-2.ensures.read (Fails.first f)))

pub returns-in_err-kind-clause-read : goal.returns-in_err-kind-clause-read
returns-in_err-kind-clause-read c = exit c.in_err-kind.ensures.read c.from_residual-in_err-kind.ensures.1 (λ f. type_part_fails c.if-eat.ensures (past c.in_ok-expect-2.ensures.read (past c.in_ok-expect-3.ensures.read (Fails.first f))))

pub returns-in_err-expect-4-clause-read : goal.returns-in_err-expect-4-clause-read
returns-in_err-expect-4-clause-read c = exit c.in_err-expect-4.ensures.read c.from_residual-in_err-expect-4.ensures.1 (λ f. type_part_fails c.if-eat.ensures (past c.in_ok-expect-2.ensures.read (past c.in_ok-expect-3.ensures.read (past c.in_ok-kind.ensures.read (Fails.first f)))))

pub returns-in_err-expect-5-clause-read : goal.returns-in_err-expect-5-clause-read
returns-in_err-expect-5-clause-read c = exit c.in_err-expect-5.ensures.read c.from_residual-in_err-expect-5.ensures.1 (λ f. type_part_fails c.if-eat.ensures (past c.in_ok-expect-2.ensures.read (past c.in_ok-expect-3.ensures.read (past c.in_ok-kind.ensures.read (past c.in_ok-expect-4.ensures.read (Fails.first f))))))

pub returns-clause-read : goal.returns-clause-read
returns-clause-read c = type_part c.if-eat.ensures c.in_ok-expect-2.ensures.read c.in_ok-expect-3.ensures.read c.in_ok-kind.ensures.read c.in_ok-expect-4.ensures.read c.in_ok-expect-5.ensures.read
