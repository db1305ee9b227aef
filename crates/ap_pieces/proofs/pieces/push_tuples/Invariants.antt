use Rattle.std.proofs.Common.{◌≡◌, ◌++◌, drop, map}
use Rattle.ap_pieces.specs.Pieces.{tuple_piece}
use Rattle.ap_pieces.proofs.pieces.push_tuples.Given as goal

abbrev pub invariant-loop-element : goal.invariant-loop-element
invariant-loop-element l = l.initial.pieces ++ map tuple_piece l.elements ≡ l.pieces ++ map tuple_piece (drop l.element-index l.elements)
