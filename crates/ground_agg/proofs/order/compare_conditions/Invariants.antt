use Rattle.std.proofs.Common.{◌≡◌, ◌-◌, ◌≤◌, drop, length}
use Rattle.sets.specs.Literals.{literals_cmp}
use Rattle.ground_agg.proofs.order.compare_conditions.Given as goal

abbrev pub invariant-loop-at : goal.invariant-loop-at
invariant-loop-at l = record {
  rest : literals_cmp l.a l.b ≡ literals_cmp (drop l.at l.a) (drop l.at l.b);
  a_in : l.at ≤ length l.a;
  b_in : l.at ≤ length l.b;
}

abbrev pub decreases-loop-at : goal.decreases-loop-at
decreases-loop-at l = length l.a - l.at
