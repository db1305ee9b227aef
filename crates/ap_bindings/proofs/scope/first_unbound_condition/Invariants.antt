use Rattle.std.proofs.Common.{◌≡◌, drop}
use Rattle.std.specs.Prelude.{flat_map}
use Rattle.ap_pieces.specs.Bound.{unbound_mention}
use Rattle.ap_bindings.specs.Searches.{assumed_in, bound_inside, first_name}
use Rattle.ap_bindings.proofs.scope.first_unbound_condition.Given as goal

abbrev pub invariant-loop-mention : goal.invariant-loop-mention
invariant-loop-mention l = first_name (flat_map (unbound_mention (assumed_in l.scope) (bound_inside l.scope)) l.condition) ≡ first_name (flat_map (unbound_mention (assumed_in l.scope) (bound_inside l.scope)) (drop l.mention-index l.condition))
