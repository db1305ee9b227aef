use Rattle.std.specs.Prelude.{◌≡◌, None, replicate}
use Rattle.proof_log.proofs.added.nothing.Given as goal

abbrev pub invariant-loop : goal.invariant-loop
invariant-loop l = l.items.items ≡ replicate l.counter None
