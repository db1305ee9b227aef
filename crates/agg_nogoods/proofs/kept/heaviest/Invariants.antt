use Rattle.std.proofs.Common.{◌≤◌, take, All, unsigned_abs}
use Rattle.agg_nogoods.proofs.kept.heaviest.Given as goal

abbrev pub invariant-loop-weight : goal.invariant-loop-weight
invariant-loop-weight l = All (λ t. unsigned_abs t.0 ≤ l.most) (take l.weight-index l.terms)
