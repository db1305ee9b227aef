use Rattle.std.proofs.Common.{◌≡◌}
use Rattle.proof_log.proofs.tests.add_bodies.Given as goal

abbrev pub invariant-loop-numbers : goal.invariant-loop-numbers
invariant-loop-numbers l = l.theory.blocks ≡ l.initial.theory.blocks
