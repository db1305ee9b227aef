use Rattle.std.proofs.Common.{◌≡◌, drop}
use Rattle.ap_pieces.specs.Bound.{unbound}
use Rattle.ap_bindings.specs.Searches.{bound_inside, first_name}
use Rattle.ap_bindings.proofs.scope.first_unbound_in.Given as goal

abbrev pub invariant-loop-occurrence : goal.invariant-loop-occurrence
invariant-loop-occurrence l = first_name (unbound (bound_inside l.scope) l.occurrences) ≡ first_name (unbound (bound_inside l.scope) (drop l.occurrence-index l.occurrences))
