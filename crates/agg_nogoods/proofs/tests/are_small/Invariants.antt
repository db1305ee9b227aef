use Rattle.std.proofs.Common.{◌≡◌, ◌+◌, unsigned_abs, sum_by, take}
use Rattle.agg_nogoods.proofs.tests.are_small.Given as goal

abbrev pub invariant-loop-weight : goal.invariant-loop-weight
invariant-loop-weight l = sum_by (λ t. unsigned_abs t.0) (take l.weight-index l.terms) + l.left ≡ 1000
