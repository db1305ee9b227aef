use Rattle.std.proofs.Common.{◌≡◌, List, ℕ, [], length, All}
use Rattle.definite.proofs.search.no_waits.Given as goal

abbrev pub invariant-loop : goal.invariant-loop
invariant-loop l = record {
  size : length l.waiting.items ≡ l.counter;
  none : All (λ (list : List ℕ). list ≡ []) l.waiting.items;
}
