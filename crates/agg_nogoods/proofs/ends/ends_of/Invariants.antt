use Rattle.std.proofs.Common.{◌≡◌, ◌<◌, ◌^◌, ◌+◌, ◌+ℤ◌, unsigned_abs, sum_by, drop}
use Rattle.agg_nogoods.specs.Ends.{least_end, greatest_end}
use Rattle.agg_nogoods.proofs.ends.ends_of.Given as goal

abbrev pub invariant-loop-weight : goal.invariant-loop-weight
invariant-loop-weight g l = record {
  least_is : least_end (g.K.Known.known l.known) l.terms ≡ l.ends.least +ℤ least_end (g.K.Known.known l.known) (drop l.weight-index l.terms);
  greatest_is : greatest_end (g.K.Known.known l.known) l.terms ≡ l.ends.greatest +ℤ greatest_end (g.K.Known.known l.known) (drop l.weight-index l.terms);
  small_least : unsigned_abs l.ends.least + sum_by (λ t. unsigned_abs t.0) (drop l.weight-index l.terms) < 2 ^ 52;
  small_greatest : unsigned_abs l.ends.greatest + sum_by (λ t. unsigned_abs t.0) (drop l.weight-index l.terms) < 2 ^ 52;
}
