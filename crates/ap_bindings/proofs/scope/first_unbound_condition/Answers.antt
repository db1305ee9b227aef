use Rattle.std.proofs.Common.{arith, sym, ◌∙◌}
use Rattle.ap_pieces.specs.Bound.{unbound_mention}
use Rattle.ap_bindings.specs.Searches.{assumed_in, bound_inside}
use Rattle.ap_bindings.proofs.UnboundLemmas.{first_here}
use Rattle.ap_bindings.proofs.scope.first_unbound_condition.Goals as goal

pub returns-in-Some : goal.returns-in-Some
returns-in-Some c = sym (c.loop-mention.invariant ∙ first_here (unbound_mention (assumed_in c.args.scope.now) (bound_inside c.args.scope.now)) c.args.condition.now c.loop-mention.mention-index c.mention-item.result c.in-Some.name (omega arith) c.mention-item.is (sym c.in_ok-name.ensures ∙ c.in-Some.is))
