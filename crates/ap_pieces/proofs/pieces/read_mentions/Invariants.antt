use Rattle.std.proofs.Common.{◌≡◌, ◌++◌, drop, map}
use Rattle.ap_pieces.specs.Pieces.{mention_of}
use Rattle.ap_pieces.proofs.pieces.read_mentions.Given as goal

abbrev pub invariant-loop-literal : goal.invariant-loop-literal
invariant-loop-literal l = map mention_of l.literals ≡ l.found ++ map mention_of (drop l.literal-index l.literals)
