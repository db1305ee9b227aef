use Rattle.std.proofs.Common.{arith}
use Rattle.std.proofs.lemmas.Grind.{common_steps}
use Rattle.grammar.specs.Takes.{Fails}
use Rattle.literal_parse.proofs.Steps.{exit}
use Rattle.pref_parse.proofs.ElementLemmas.{ranking_begun, ranking_more, ranks_fail, ranks_end}
use Rattle.pref_parse.proofs.elements.read_ranks.Goals as goal

pub returns-in_err-first-clause-read : goal.returns-in_err-first-clause-read
returns-in_err-first-clause-read c = exit c.in_err-first.ensures.read c.from_residual.ensures.1 (λ f. Fails.first f)

pub signs-init : goal.signs-init
signs-init c = record { shorter = omega arith; so_far = ranking_begun _ _ }

pub returns-in_err-next-clause-read : goal.returns-in_err-next-clause-read
returns-in_err-next-clause-read c = exit c.in_err-next.ensures.read c.from_residual-in_err-next.ensures.1 (ranks_fail c.in_ok-first.ensures.read c.signs.invariant.so_far c.signs-test.ensures)

pub signs-preserved : goal.signs-preserved
signs-preserved c = record { shorter = grind (arith, common_steps); so_far = rw c.in_ok-push-2.ensures.items (ranking_more c.signs.invariant.so_far c.signs-test.ensures c.in_ok-next.ensures.read) }

pub returns-clause-read : goal.returns-clause-read
returns-clause-read c = rw c.fitted.ensures (ranks_end c.in_ok-first.ensures.read c.signs.invariant.so_far c.new-ranks.ensures.items c.in_ok-push.ensures.items c.signs-test.ensures)
