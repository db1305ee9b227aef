use Rattle.std.proofs.Common.{◌≡◌, ◌++◌, map, drop}
use Rattle.ground_agg.specs.Rows.{rows_of, rows_from}
use Rattle.ground_agg.proofs.grouping.rows_of.Given as goal

abbrev pub invariant-loop-pair : goal.invariant-loop-pair
invariant-loop-pair l = rows_of (map (λ p. p.now) l.fn.pairs) ≡ l.rows.items ++ rows_from l.row (map (λ p. p.now) (drop l.pair-index l.rest))
