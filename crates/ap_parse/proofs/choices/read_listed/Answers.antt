use Rattle.std.proofs.Common.{arith}
use Rattle.std.proofs.lemmas.Grind.{common_steps}
use Rattle.literal_parse.proofs.Steps.{exit}
use Rattle.ap_parse.proofs.ChoiceLemmas.{elements_begun, elements_more, listed_none, listed_first_fails, listed_fails, listed_read}
use Rattle.ap_parse.proofs.choices.read_listed.Goals as goal

pub returns-then-not-begins_element-clause-read : goal.returns-then-not-begins_element-clause-read
returns-then-not-begins_element-clause-read c = listed_none c.if-not-begins_element.ensures c.new.ensures

pub returns-in_err-first-clause-read : goal.returns-in_err-first-clause-read
returns-in_err-first-clause-read c = exit c.in_err-first.ensures.read c.from_residual.ensures.1 (listed_first_fails c.if-not-begins_element.ensures)

pub semicolons-init : goal.semicolons-init
semicolons-init c = record { shorter = grind (arith, common_steps); so_far = elements_begun _ _ }

pub returns-in_err-next-clause-read : goal.returns-in_err-next-clause-read
returns-in_err-next-clause-read c = exit c.in_err-next.ensures.read c.from_residual-in_err-next.ensures.1 (listed_fails c.if-not-begins_element.ensures c.in_ok-first.ensures.read c.semicolons.invariant.so_far c.semicolons-test.ensures)

pub semicolons-preserved : goal.semicolons-preserved
semicolons-preserved c = record { shorter = grind (arith, common_steps); so_far = rw c.in_ok-push-2.ensures.items (elements_more c.semicolons.invariant.so_far c.semicolons-test.ensures c.in_ok-next.ensures.read) }

pub returns-clause-read : goal.returns-clause-read
returns-clause-read c = rw c.fitted.ensures (listed_read c.if-not-begins_element.ensures c.in_ok-first.ensures.read c.semicolons.invariant.so_far c.new-elements.ensures.items c.in_ok-push.ensures.items c.semicolons-test.ensures)
