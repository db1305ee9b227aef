use Rattle.std.proofs.Common.{◌≡◌, pos, ◌≤ℤ◌, take, All}
use Rattle.std.specs.Prelude.{None, unsigned_abs}
use Rattle.agg_nogoods.specs.Known.{known_with}
use Rattle.agg_nogoods.proofs.propagation.forced_literal.Given as goal

abbrev pub invariant-loop-weight : goal.invariant-loop-weight
invariant-loop-weight l = All (λ t. known_with l.a l.row.var.0 l.holds t.1.0 ≡ None → pos (unsigned_abs t.0) ≤ℤ l.slack) (take l.weight-index l.row.terms)
