use Rattle.std.proofs.Common.{◌≡◌, ◌++◌, drop}
use Rattle.agg_nogoods.specs.Slack.{false_literals}
use Rattle.agg_nogoods.proofs.propagation.false_literals.Given as goal

abbrev pub invariant-loop-weight : goal.invariant-loop-weight
invariant-loop-weight g l = false_literals l.holds (g.K.Known.known l.known) l.terms ≡ l.lits.items ++ false_literals l.holds (g.K.Known.known l.known) (drop l.weight-index l.terms)
