use Rattle.grammar.specs.Takes.{Fails}
use Rattle.literal_parse.proofs.Steps.{exit}
use Rattle.pref_parse.proofs.MixedLemmas.{mixed_reads, inner_unit, inner_fails, inner_reads, front_not_fails, front_not, front_minus_fails, front_minus, unsigned, front_simple_fails, front_simple, front_inner, front_name_fails, front_arguments_fail, front_named}
use Rattle.pref_parse.proofs.mixed.+mixed.Goals as goal

pub read_mixed-returns-in_err-front-clause-read : goal.read_mixed-returns-in_err-front-clause-read
read_mixed-returns-in_err-front-clause-read t c = exit c.in_err-front.ensures.read c.from_residual.ensures.1 (λ f. Fails.call (Fails.start f))

pub read_mixed-returns-clause-read : goal.read_mixed-returns-clause-read
read_mixed-returns-clause-read t c = mixed_reads c.in_ok-front.ensures.read c.read_mixed_rest.ensures.read

-- ---- behind a parenthesis

pub read_inner-returns-then-eat-clause-read : goal.read_inner-returns-then-eat-clause-read
read_inner-returns-then-eat-clause-read t c = inner_unit c.if-eat.ensures c.new.ensures

pub read_inner-returns-in_err-inner-clause-read : goal.read_inner-returns-in_err-inner-clause-read
read_inner-returns-in_err-inner-clause-read t c = exit c.in_err-inner.ensures.read c.from_residual.ensures.1 (inner_fails c.if-eat.ensures)

pub read_inner-returns-clause-read : goal.read_inner-returns-clause-read
read_inner-returns-clause-read t c = inner_reads c.if-eat.ensures c.in_ok-inner.ensures.read c.read_inner_rest.ensures.read

-- ---- the first primary term or the first member

pub read_front-returns-in_err-negated-clause-read : goal.read_front-returns-in_err-negated-clause-read
read_front-returns-in_err-negated-clause-read t c = exit c.in_err-negated.ensures.read c.from_residual.ensures.1 (front_not_fails c.if-eat.ensures)

pub read_front-returns-then-eat-clause-read : goal.read_front-returns-then-eat-clause-read
read_front-returns-then-eat-clause-read t c = rw c.in_ok-new.ensures (front_not c.if-eat.ensures c.in_ok-negated.ensures.read)

pub read_front-returns-in_err-term-clause-read : goal.read_front-returns-in_err-term-clause-read
read_front-returns-in_err-term-clause-read t c = exit c.in_err-term.ensures.read c.from_residual-in_err-term.ensures.1 (front_minus_fails c.if-eat.ensures c.if-eat-2.ensures)

pub read_front-returns-then-eat-2-clause-read : goal.read_front-returns-then-eat-2-clause-read
read_front-returns-then-eat-2-clause-read t c = rw c.in_ok-negated-2.ensures (front_minus c.if-eat.ensures c.if-eat-2.ensures c.in_ok-term.ensures.read)

pub read_front-returns-in_err-term-2-clause-read : goal.read_front-returns-in_err-term-2-clause-read
read_front-returns-in_err-term-2-clause-read t c = exit c.in_err-term-2.ensures.read c.from_residual-in_err-term-2.ensures.1 (front_simple_fails c.if-begins_simple.ensures)

pub read_front-returns-then-begins_simple-clause-read : goal.read_front-returns-then-begins_simple-clause-read
read_front-returns-then-begins_simple-clause-read t c = rw c.in_ok-into_term.ensures (front_simple (unsigned c.if-eat.ensures c.if-eat-2.ensures) c.if-begins_simple.ensures c.in_ok-term-2.ensures.read)

pub read_front-returns-then-eat-3-clause-read : goal.read_front-returns-then-eat-3-clause-read
read_front-returns-then-eat-3-clause-read t c = front_inner (unsigned c.if-eat.ensures c.if-eat-2.ensures) c.if-begins_simple.ensures c.if-eat-3.ensures c.read_inner.ensures.read

pub read_front-returns-in_err-name-clause-read : goal.read_front-returns-in_err-name-clause-read
read_front-returns-in_err-name-clause-read t c = exit c.in_err-name.ensures.read c.from_residual-in_err-name.ensures.1 (front_name_fails (unsigned c.if-eat.ensures c.if-eat-2.ensures) c.if-begins_simple.ensures c.if-eat-3.ensures)

pub read_front-returns-in_err-terms-clause-read : goal.read_front-returns-in_err-terms-clause-read
read_front-returns-in_err-terms-clause-read t c = exit c.in_err-terms.ensures.read c.from_residual-in_err-terms.ensures.1 (front_arguments_fail (unsigned c.if-eat.ensures c.if-eat-2.ensures) c.if-begins_simple.ensures c.if-eat-3.ensures c.in_ok-name.ensures.read)

pub read_front-returns-clause-read : goal.read_front-returns-clause-read
read_front-returns-clause-read t c = front_named (unsigned c.if-eat.ensures c.if-eat-2.ensures) c.if-begins_simple.ensures c.if-eat-3.ensures c.in_ok-name.ensures.read c.in_ok-terms.ensures.read
