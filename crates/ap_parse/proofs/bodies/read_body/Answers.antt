use Rattle.std.proofs.Common.{arith}
use Rattle.std.proofs.lemmas.Grind.{common_steps}
use Rattle.ap_parse.proofs.BodyLemmas.{body_begun, body_fails, body_more, body_end, body_exit}
use Rattle.ap_parse.proofs.bodies.read_body.Goals as goal

pub separators-init : goal.separators-init
separators-init c = record { shorter = grind (arith, common_steps); so_far = body_begun c.new-items.ensures.items c.in_ok-last.ensures.read }

pub separators-preserved : goal.separators-preserved
separators-preserved c = record { shorter = grind (arith, common_steps); so_far = body_more c.separators.invariant.so_far c.separators-test.ensures c.in_ok-push.ensures.items c.in_ok-last-2.ensures.read }

pub returns-in_err-last-clause-read : goal.returns-in_err-last-clause-read
returns-in_err-last-clause-read c = body_exit c.in_err-last.ensures.read c.from_residual.ensures.1 (λ f. f)

pub returns-in_err-last-2-clause-read : goal.returns-in_err-last-2-clause-read
returns-in_err-last-2-clause-read c = body_exit c.in_err-last-2.ensures.read c.from_residual-in_err-last-2.ensures.1 (body_fails c.separators.invariant.so_far c.separators-test.ensures)

pub returns-clause-read : goal.returns-clause-read
returns-clause-read c = rw c.fitted.ensures (body_end c.separators.invariant.so_far c.separators-test.ensures c.in_ok-push-2.ensures.items)
