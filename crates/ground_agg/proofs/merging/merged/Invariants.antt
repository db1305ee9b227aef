use Rattle.std.proofs.Common.{◌≡◌, ◌+◌, ◌-◌, ◌≤◌, ◌++◌, map, drop, length}
use Rattle.ground_agg.specs.Merged.{merge, pair_cmp}
use Rattle.ground_agg.proofs.merging.merged.Given as goal

abbrev pub invariant-loop-i : goal.invariant-loop-i
invariant-loop-i l = record {
  merged : merge (pair_cmp l.terms) (map (λ p. p.now) l.left) (map (λ p. p.now) l.right)
      ≡ map (λ p. p.now) l.pairs.items ++ merge (pair_cmp l.terms) (map (λ p. p.now) (drop l.i l.left)) (map (λ p. p.now) (drop l.j l.right));
  left_in : l.i ≤ length l.left;
  right_in : l.j ≤ length l.right;
}

abbrev pub decreases-loop-i : goal.decreases-loop-i
decreases-loop-i l = (length l.left - l.i) + (length l.right - l.j)
