use Rattle.std.proofs.Common.{◌≡◌, ◌++◌, drop}
use Rattle.std.specs.Prelude.{flat_map}
use Rattle.ap_pieces.specs.Pieces.{tuple_signatures}
use Rattle.ap_pieces.proofs.aggregates.signatures_in.Given as goal

abbrev pub invariant-loop-element : goal.invariant-loop-element
invariant-loop-element l = flat_map tuple_signatures l.elements ≡ l.found ++ flat_map tuple_signatures (drop l.element-index l.elements)
