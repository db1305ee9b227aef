use Rattle.std.proofs.Common.{arith}
use Rattle.std.proofs.lemmas.Grind.{common_steps}
use Rattle.grammar.specs.Takes.{Fails}
use Rattle.literal_parse.proofs.Steps.{exit}
use Rattle.literal_parse.proofs.LiteralLemmas.{literals_more, literals_fail, literals_end}
use Rattle.literal_parse.proofs.literals.read_literals.Goals as goal

pub returns-in_err-first-clause-read : goal.returns-in_err-first-clause-read
returns-in_err-first-clause-read c = exit c.in_err-first.ensures.read c.from_residual.ensures.1 (λ f. Fails.call (Fails.first f))

pub returns-in_err-next-clause-read : goal.returns-in_err-next-clause-read
returns-in_err-next-clause-read c = exit c.in_err-next.ensures.read c.from_residual-in_err-next.ensures.1 (literals_fail c.in_ok-first.ensures.read c.commas.invariant.so_far c.commas-test.ensures)

pub commas-preserved : goal.commas-preserved
commas-preserved c = record { shorter = grind (arith, common_steps); so_far = rw c.in_ok-push-2.ensures.items (literals_more c.commas.invariant.so_far c.commas-test.ensures c.in_ok-next.ensures.read) }

pub returns-clause-read : goal.returns-clause-read
returns-clause-read c = rw c.fitted.ensures (literals_end c.in_ok-first.ensures.read c.commas.invariant.so_far c.new-literals.ensures.items c.in_ok-push.ensures.items c.commas-test.ensures)
