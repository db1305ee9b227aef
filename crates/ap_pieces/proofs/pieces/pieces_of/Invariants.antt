use Rattle.std.proofs.Common.{◌≡◌, ◌++◌, drop}
use Rattle.std.specs.Prelude.{flat_map}
use Rattle.ap_pieces.specs.Pieces.{rule_pieces, item_pieces}
use Rattle.ap_pieces.proofs.pieces.pieces_of.Given as goal

abbrev pub invariant-loop-item : goal.invariant-loop-item
invariant-loop-item l = rule_pieces l.rule ≡ l.pieces ++ flat_map item_pieces (drop l.item-index l.rule.body)
