use Rattle.std.proofs.Common.{arith}
use Rattle.std.proofs.lemmas.Grind.{common_steps}
use Rattle.grammar.specs.Takes.{Fails}
use Rattle.literal_parse.proofs.Steps.{exit}
use Rattle.ap_parse.proofs.AggregateLemmas.{elements_more, elements_fail, elements_end}
use Rattle.ap_parse.proofs.aggregates.read_elements.Goals as goal

pub returns-in_err-first-clause-read : goal.returns-in_err-first-clause-read
returns-in_err-first-clause-read c = exit c.in_err-first.ensures.read c.from_residual.ensures.1 (λ f. Fails.first f)

pub returns-in_err-next-clause-read : goal.returns-in_err-next-clause-read
returns-in_err-next-clause-read c = exit c.in_err-next.ensures.read c.from_residual-in_err-next.ensures.1 (elements_fail c.in_ok-first.ensures.read c.semicolons.invariant.so_far c.semicolons-test.ensures)

pub semicolons-preserved : goal.semicolons-preserved
semicolons-preserved c = record { shorter = grind (arith, common_steps); so_far = rw c.in_ok-push-2.ensures.items (elements_more c.semicolons.invariant.so_far c.semicolons-test.ensures c.in_ok-next.ensures.read) }

pub returns-clause-read : goal.returns-clause-read
returns-clause-read c = rw c.fitted.ensures (elements_end c.in_ok-first.ensures.read c.semicolons.invariant.so_far c.new-elements.ensures.items c.in_ok-push.ensures.items c.semicolons-test.ensures)
