use Rattle.std.specs.Prelude.{◌≡◌, ◌≤◌, replicate, None}
use Rattle.opt_core.proofs.chains.Chains.new.Given as goal

abbrev pub invariant-loop : goal.invariant-loop
invariant-loop l = (l.sets.items ≡ replicate l.counter None) × (l.counter ≤ l.fn.chains)
