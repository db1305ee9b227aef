use Rattle.std.proofs.Common.{◌≡◌, ◌++◌, drop}
use Rattle.std.specs.Prelude.{flat_map}
use Rattle.ap_pieces.specs.Pieces.{tuple_occurrences}
use Rattle.ap_pieces.proofs.aggregates.occurrences_between.Given as goal

abbrev pub invariant-loop-element : goal.invariant-loop-element
invariant-loop-element l = flat_map tuple_occurrences l.elements ≡ l.found ++ flat_map tuple_occurrences (drop l.element-index l.elements)
