use Rattle.std.proofs.Common.{◌≡◌, drop}
use Rattle.ap_pieces.specs.Bound.{has_all}
use Rattle.ap_bindings.specs.Searches.{assumed_in}
use Rattle.ap_bindings.proofs.scope.Scope.takes_all.Given as goal

abbrev pub invariant-loop-occurrence : goal.invariant-loop-occurrence
invariant-loop-occurrence l = has_all (assumed_in l.self) l.occurrences ≡ has_all (assumed_in l.self) (drop l.occurrence-index l.occurrences)
