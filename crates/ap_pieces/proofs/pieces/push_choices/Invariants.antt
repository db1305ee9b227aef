use Rattle.std.proofs.Common.{◌≡◌, ◌++◌, drop, map}
use Rattle.ap_pieces.specs.Pieces.{choice_piece}
use Rattle.ap_pieces.proofs.pieces.push_choices.Given as goal

abbrev pub invariant-loop-element : goal.invariant-loop-element
invariant-loop-element l = l.initial.pieces ++ map choice_piece l.elements ≡ l.pieces ++ map choice_piece (drop l.element-index l.elements)
