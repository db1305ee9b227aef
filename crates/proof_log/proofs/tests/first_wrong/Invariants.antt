use Rattle.proof_log.specs.States.{IsReserved}
use Rattle.proof_log.proofs.tests.first_wrong.Given as goal

abbrev pub invariant-loop-place : goal.invariant-loop-place
invariant-loop-place l = IsReserved l.state
