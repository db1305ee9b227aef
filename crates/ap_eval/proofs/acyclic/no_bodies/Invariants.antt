use Rattle.std.proofs.Common.{◌≡◌, ℕ, [], length}
use Rattle.ap_eval.specs.Supports.{bodies_at}
use Rattle.ap_eval.proofs.acyclic.no_bodies.Given as goal

abbrev pub invariant-loop : goal.invariant-loop
invariant-loop l = record {
  none : (a : ℕ) → bodies_at l.bodies.items a ≡ [];
  size : length l.bodies.items ≡ l.counter;
}
