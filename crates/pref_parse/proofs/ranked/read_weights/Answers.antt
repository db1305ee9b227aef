use Rattle.std.proofs.Common.{arith}
use Rattle.std.proofs.lemmas.Grind.{common_steps}
use Rattle.literal_parse.proofs.Steps.{exit}
use Rattle.pref_parse.proofs.RankLemmas.{weighing_begun, weighing_more, weighing_fails, weighing_end}
use Rattle.pref_parse.proofs.ranked.read_weights.Goals as goal

pub commas-init : goal.commas-init
commas-init c = record { shorter = omega arith; so_far = weighing_begun _ _ }

pub returns-in_err-next-clause-read : goal.returns-in_err-next-clause-read
returns-in_err-next-clause-read c = exit c.in_err-next.ensures.read c.from_residual-in_err-next.ensures.1 (weighing_fails c.commas.invariant.so_far c.commas-test.ensures)

pub commas-preserved : goal.commas-preserved
commas-preserved c = record { shorter = grind (arith, common_steps); so_far = rw (c.in_ok-push-2.ensures.items, c.in_ok-into_term.ensures) (weighing_more c.commas.invariant.so_far c.commas-test.ensures c.in_ok-next.ensures.read) }

pub returns-clause-read : goal.returns-clause-read
returns-clause-read c = rw c.fitted.ensures (weighing_end c.commas.invariant.so_far c.new-weights.ensures.items c.in_ok-push.ensures.items c.commas-test.ensures)
