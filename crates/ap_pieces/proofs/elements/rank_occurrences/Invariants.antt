use Rattle.std.proofs.Common.{◌≡◌, ◌++◌, drop}
use Rattle.std.specs.Prelude.{flat_map}
use Rattle.ap_pieces.specs.Pieces.{ranked_occurrences}
use Rattle.ap_pieces.proofs.elements.rank_occurrences.Given as goal

abbrev pub invariant-loop-ranked : goal.invariant-loop-ranked
invariant-loop-ranked l = flat_map ranked_occurrences l.ranks ≡ l.found ++ flat_map ranked_occurrences (drop l.ranked-index l.ranks)
