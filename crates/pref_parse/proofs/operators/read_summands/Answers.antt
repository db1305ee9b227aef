use Rattle.std.proofs.Common.{arith}
use Rattle.std.proofs.lemmas.Grind.{common_steps}
use Rattle.ap_grammar.specs.Factored.{summand}
use Rattle.literal_parse.proofs.Steps.{exit}
use Rattle.pref_parse.proofs.OperatorLemmas.{operating_begun, summands_more, summands_fail, summands_end}
use Rattle.pref_parse.proofs.operators.read_summands.Goals as goal

pub signs-init : goal.signs-init
signs-init c = record { shorter = omega arith; so_far = operating_begun summand _ _ }

pub returns-in_err-next-clause-read : goal.returns-in_err-next-clause-read
returns-in_err-next-clause-read c = exit c.in_err-next.ensures.read c.from_residual.ensures.1 (summands_fail c.in-Some.op c.signs.invariant.so_far c.in-Some.ensures)

pub signs-preserved : goal.signs-preserved
signs-preserved c = record { shorter = grind (arith, common_steps); so_far = rw (c.in_ok-left.ensures, c.in_ok-right.ensures) (summands_more c.in-Some.op c.signs.invariant.so_far c.in-Some.ensures c.in_ok-next.ensures.read) }

pub returns-clause-read : goal.returns-clause-read
returns-clause-read c = summands_end c.signs.invariant.so_far c.in_default.ensures
