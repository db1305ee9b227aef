use Rattle.literal_parse.proofs.Steps.{exit}
use Rattle.literal_parse.proofs.LiteralLemmas.{negated_fails, negated_read, literal_first_fails, compared_fails, compared_read, bare_read, not_bare}
use Rattle.literal_parse.proofs.literals.read_literal.Goals as goal

pub returns-in_err-atom-clause-read : goal.returns-in_err-atom-clause-read
returns-in_err-atom-clause-read c = exit c.in_err-atom.ensures.read c.from_residual.ensures.1 (negated_fails c.if-eat.ensures)

pub returns-then-eat-clause-read : goal.returns-then-eat-clause-read
returns-then-eat-clause-read c = negated_read c.if-eat.ensures c.in_ok-atom.ensures.read

pub returns-in_err-left-clause-read : goal.returns-in_err-left-clause-read
returns-in_err-left-clause-read c = exit c.in_err-left.ensures.read c.from_residual-in_err-left.ensures.1 (literal_first_fails c.if-eat.ensures)

pub returns-in_err-right-clause-read : goal.returns-in_err-right-clause-read
returns-in_err-right-clause-read c = exit c.in_err-right.ensures.read c.from_residual-in_err-right.ensures.1 (compared_fails c.if-eat.ensures c.in_ok-left.ensures.read c.in-Some.ensures)

pub returns-in-Some-clause-read : goal.returns-in-Some-clause-read
returns-in-Some-clause-read c = rw (c.in_ok-left-2.ensures, c.in_ok-right-2.ensures) (compared_read c.if-eat.ensures c.in_ok-left.ensures.read c.in-Some.ensures c.in_ok-right.ensures.read)

pub returns-in_err-bare-clause-read : goal.returns-in_err-bare-clause-read
returns-in_err-bare-clause-read c = not_bare c.if-eat.ensures c.in_ok-left.ensures.read _ c.in_default.ensures c.in_err-bare.ensures c.from_residual-in_err-bare.ensures.1

pub returns-clause-read : goal.returns-clause-read
returns-clause-read c = bare_read c.if-eat.ensures c.in_ok-left.ensures.read c.in_default.ensures c.in_ok-bare.ensures
