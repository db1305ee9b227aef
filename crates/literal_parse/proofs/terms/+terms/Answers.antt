use Rattle.std.proofs.Common.{[], ◌∷◌, ◌++◌, ◌∙◌, ap, arith}
use Rattle.std.proofs.lemmas.Grind.{common_steps}
use Rattle.grammar.specs.Takes.{Fails}
use Rattle.literal_parse.proofs.Steps.{exit, stopped}
use Rattle.literal_parse.proofs.Sums.{term_alone, term_end_fails, term_range, sum_more, sum_fails, sum_end, product_more, product_fails, product_end, unary_plain, unary_fails, unary_minus}
use Rattle.literal_parse.proofs.Primaries.{simple_read, simple_none, group_fails, group_read, named_fails, arguments_fail, named_read, unit_read, group_first_fails, closed_read, comma_fails, tuple_reads, tuple_closed, tuple_terms_fail, tuple_close_fails, tuple_read, no_arguments, arguments_terms_fail, arguments_close_fails, arguments_read, terms_more, terms_fail, terms_end}
use Rattle.literal_parse.proofs.terms.+terms.Goals as goal

-- ---- intervals

pub read_term-returns-in_err-low-clause-read : goal.read_term-returns-in_err-low-clause-read
read_term-returns-in_err-low-clause-read t c = exit c.in_err-low.ensures.read c.from_residual.ensures.1 (λ f. Fails.call (Fails.first f))

pub read_term-returns-then-not-eat-clause-read : goal.read_term-returns-then-not-eat-clause-read
read_term-returns-then-not-eat-clause-read t c = term_alone c.in_ok-low.ensures.read c.if-not-eat.ensures.0 c.if-not-eat.ensures.1

pub read_term-returns-in_err-high-clause-read : goal.read_term-returns-in_err-high-clause-read
read_term-returns-in_err-high-clause-read t c = exit c.in_err-high.ensures.read c.from_residual-in_err-high.ensures.1 (term_end_fails c.in_ok-low.ensures.read c.if-not-eat.ensures)

pub read_term-returns-clause-read : goal.read_term-returns-clause-read
read_term-returns-clause-read t c = rw (c.in_ok-left.ensures, c.in_ok-right.ensures) (term_range c.in_ok-low.ensures.read c.if-not-eat.ensures c.in_ok-high.ensures.read)

-- ---- sums

pub read_sum-returns-in_err-sum-clause-read : goal.read_sum-returns-in_err-sum-clause-read
read_sum-returns-in_err-sum-clause-read t c = exit c.in_err-sum.ensures.read c.from_residual.ensures.1 (λ f. Fails.call (Fails.first f))

pub read_sum-returns-in_err-next-clause-read : goal.read_sum-returns-in_err-next-clause-read
read_sum-returns-in_err-next-clause-read t c = exit c.in_err-next.ensures.read c.from_residual-in_err-next.ensures.1 (sum_fails c.in-Some.op c.in_ok-sum.ensures.read c.signs.invariant.so_far c.in-Some.ensures)

pub read_sum-signs-preserved : goal.read_sum-signs-preserved
read_sum-signs-preserved t c = record { shorter = grind (arith, common_steps); so_far = rw (c.in_ok-left.ensures, c.in_ok-right.ensures) (sum_more c.in-Some.op c.signs.invariant.so_far c.in-Some.ensures c.in_ok-next.ensures.read) }

pub read_sum-returns-clause-read : goal.read_sum-returns-clause-read
read_sum-returns-clause-read t c = sum_end c.in_ok-sum.ensures.read c.signs.invariant.so_far c.in_default.ensures

-- ---- products

pub read_product-returns-in_err-product-clause-read : goal.read_product-returns-in_err-product-clause-read
read_product-returns-in_err-product-clause-read t c = exit c.in_err-product.ensures.read c.from_residual.ensures.1 (λ f. Fails.call (Fails.first f))

pub read_product-returns-in_err-next-clause-read : goal.read_product-returns-in_err-next-clause-read
read_product-returns-in_err-next-clause-read t c = exit c.in_err-next.ensures.read c.from_residual-in_err-next.ensures.1 (product_fails c.in-Some.op c.in_ok-product.ensures.read c.signs.invariant.so_far c.in-Some.ensures)

pub read_product-signs-preserved : goal.read_product-signs-preserved
read_product-signs-preserved t c = record { shorter = grind (arith, common_steps); so_far = rw (c.in_ok-left.ensures, c.in_ok-right.ensures) (product_more c.in-Some.op c.signs.invariant.so_far c.in-Some.ensures c.in_ok-next.ensures.read) }

pub read_product-returns-clause-read : goal.read_product-returns-clause-read
read_product-returns-clause-read t c = product_end c.in_ok-product.ensures.read c.signs.invariant.so_far c.in_default.ensures

-- ---- signs

pub read_unary-returns-then-not-eat-clause-read : goal.read_unary-returns-then-not-eat-clause-read
read_unary-returns-then-not-eat-clause-read t c = unary_plain c.if-not-eat.ensures.0 c.if-not-eat.ensures.1 c.read_primary.ensures.read

pub read_unary-returns-in_err-term-clause-read : goal.read_unary-returns-in_err-term-clause-read
read_unary-returns-in_err-term-clause-read t c = exit c.in_err-term.ensures.read c.from_residual.ensures.1 (unary_fails c.if-not-eat.ensures)

pub read_unary-returns-clause-read : goal.read_unary-returns-clause-read
read_unary-returns-clause-read t c = rw c.in_ok-negated.ensures (unary_minus c.if-not-eat.ensures c.in_ok-term.ensures.read)

-- ---- primary terms

pub read_primary-returns-in_err-simple-clause-read : goal.read_primary-returns-in_err-simple-clause-read
read_primary-returns-in_err-simple-clause-read t c = stopped c.in_err-simple.ensures.read c.from_residual.ensures.1

pub read_primary-returns-in-Some-clause-read : goal.read_primary-returns-in-Some-clause-read
read_primary-returns-in-Some-clause-read t c = simple_read _ c.in-Some.is c.in_ok-simple.ensures.read

pub read_primary-returns-in_err-term-clause-read : goal.read_primary-returns-in_err-term-clause-read
read_primary-returns-in_err-term-clause-read t c = exit c.in_err-term.ensures.read c.from_residual-in_err-term.ensures.1 (group_fails (simple_none _ c.in_default.is c.in_ok-simple.ensures.read) c.if-eat.ensures)

pub read_primary-returns-then-eat-clause-read : goal.read_primary-returns-then-eat-clause-read
read_primary-returns-then-eat-clause-read t c = group_read (simple_none _ c.in_default.is c.in_ok-simple.ensures.read) c.if-eat.ensures c.in_ok-term.ensures.read

pub read_primary-returns-in_err-name-clause-read : goal.read_primary-returns-in_err-name-clause-read
read_primary-returns-in_err-name-clause-read t c = exit c.in_err-name.ensures.read c.from_residual-in_err-name.ensures.1 (named_fails (simple_none _ c.in_default.is c.in_ok-simple.ensures.read) c.if-eat.ensures)

pub read_primary-returns-in_err-terms-clause-read : goal.read_primary-returns-in_err-terms-clause-read
read_primary-returns-in_err-terms-clause-read t c = exit c.in_err-terms.ensures.read c.from_residual-in_err-terms.ensures.1 (arguments_fail (simple_none _ c.in_default.is c.in_ok-simple.ensures.read) c.if-eat.ensures c.in_ok-name.ensures.read)

pub read_primary-returns-clause-read : goal.read_primary-returns-clause-read
read_primary-returns-clause-read t c = named_read (simple_none _ c.in_default.is c.in_ok-simple.ensures.read) c.if-eat.ensures c.in_ok-name.ensures.read c.in_ok-terms.ensures.read

-- ---- behind a parenthesis

pub read_group-returns-then-eat-clause-read : goal.read_group-returns-then-eat-clause-read
read_group-returns-then-eat-clause-read t c = unit_read c.if-eat.ensures c.new.ensures

pub read_group-returns-in_err-first-clause-read : goal.read_group-returns-in_err-first-clause-read
read_group-returns-in_err-first-clause-read t c = exit c.in_err-first.ensures.read c.from_residual.ensures.1 (group_first_fails c.if-eat.ensures)

pub read_group-returns-then-eat-2-clause-read : goal.read_group-returns-then-eat-2-clause-read
read_group-returns-then-eat-2-clause-read t c = rw c.in_ok-into_term.ensures (closed_read c.if-eat.ensures c.in_ok-first.ensures.read c.if-eat-2.ensures)

pub read_group-returns-in_err-expect-clause-read : goal.read_group-returns-in_err-expect-clause-read
read_group-returns-in_err-expect-clause-read t c = exit c.in_err-expect.ensures.read c.from_residual-in_err-expect.ensures.1 (comma_fails c.if-eat.ensures c.in_ok-first.ensures.read c.if-eat-2.ensures)

pub read_group-returns-clause-read : goal.read_group-returns-clause-read
read_group-returns-clause-read t c = tuple_reads c.if-eat.ensures c.in_ok-first.ensures.read c.if-eat-2.ensures c.in_ok-expect.ensures.read c.in_ok-first-2.ensures c.read_tuple.ensures.read

-- ---- tuples

pub read_tuple-returns-then-eat-clause-read : goal.read_tuple-returns-then-eat-clause-read
read_tuple-returns-then-eat-clause-read t c = rw c.fitted.ensures (tuple_closed c.args.first c.new-members.ensures.items c.in_ok-push.ensures.items c.if-eat.ensures)

pub read_tuple-returns-in_err-all-clause-read : goal.read_tuple-returns-in_err-all-clause-read
read_tuple-returns-in_err-all-clause-read t c = exit c.in_err-all.ensures.read c.from_residual-in_err-all.ensures.1 (tuple_terms_fail c.if-eat.ensures)

pub read_tuple-returns-in_err-expect-clause-read : goal.read_tuple-returns-in_err-expect-clause-read
read_tuple-returns-in_err-expect-clause-read t c = exit c.in_err-expect.ensures.read c.from_residual-in_err-expect.ensures.1 (tuple_close_fails c.if-eat.ensures c.in_ok-all.ensures.read)

pub read_tuple-returns-clause-read : goal.read_tuple-returns-clause-read
read_tuple-returns-clause-read t c = tuple_read c.if-eat.ensures c.in_ok-all.ensures.read c.args.first c.new-members.ensures.items c.in_ok-push.ensures.items c.in_ok-expect.ensures.read

-- ---- arguments

pub read_arguments-returns-then-not-eat-clause-read : goal.read_arguments-returns-then-not-eat-clause-read
read_arguments-returns-then-not-eat-clause-read t c = no_arguments c.if-not-eat.ensures c.new.ensures

pub read_arguments-returns-in_err-terms-clause-read : goal.read_arguments-returns-in_err-terms-clause-read
read_arguments-returns-in_err-terms-clause-read t c = exit c.in_err-terms.ensures.read c.from_residual.ensures.1 (arguments_terms_fail c.if-not-eat.ensures)

pub read_arguments-returns-in_err-expect-clause-read : goal.read_arguments-returns-in_err-expect-clause-read
read_arguments-returns-in_err-expect-clause-read t c = exit c.in_err-expect.ensures.read c.from_residual-in_err-expect.ensures.1 (arguments_close_fails c.if-not-eat.ensures c.in_ok-terms.ensures.read)

pub read_arguments-returns-clause-read : goal.read_arguments-returns-clause-read
read_arguments-returns-clause-read t c = arguments_read c.if-not-eat.ensures c.in_ok-terms.ensures.read c.new-2.ensures.items c.in_ok-expect.ensures.read

-- ---- lists of terms

pub read_terms-returns-in_err-first-clause-read : goal.read_terms-returns-in_err-first-clause-read
read_terms-returns-in_err-first-clause-read t c = exit c.in_err-first.ensures.read c.from_residual.ensures.1 (λ f. Fails.first f)

pub read_terms-returns-in_err-next-clause-read : goal.read_terms-returns-in_err-next-clause-read
read_terms-returns-in_err-next-clause-read t c = exit c.in_err-next.ensures.read c.from_residual-in_err-next.ensures.1 (terms_fail c.in_ok-first.ensures.read c.commas.invariant.so_far c.commas-test.ensures)

pub read_terms-commas-preserved : goal.read_terms-commas-preserved
read_terms-commas-preserved t c = record { shorter = grind (arith, common_steps); so_far = rw (c.in_ok-push-2.ensures.items, c.in_ok-into_term-2.ensures) (terms_more c.commas.invariant.so_far c.commas-test.ensures c.in_ok-next.ensures.read) }

pub read_terms-returns-clause-read : goal.read_terms-returns-clause-read
read_terms-returns-clause-read t c = rw c.fitted.ensures (terms_end c.in_ok-first.ensures.read c.commas.invariant.so_far c.args.terms.items (c.in_ok-push.ensures.items ∙ ap (λ x. c.args.terms.items ++ x ∷ []) c.in_ok-into_term.ensures) c.commas-test.ensures)
