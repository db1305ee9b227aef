use Rattle.std.proofs.Common.{◌≡◌, List, ℕ, [], length, All}
use Rattle.pred_graph.proofs.rows.empty_rows.Given as goal

abbrev pub invariant-loop : goal.invariant-loop
invariant-loop l = record {
  size : length l.rows.items ≡ l.counter;
  none : All (λ (list : List ℕ). list ≡ []) l.rows.items;
}
