use Rattle.std.proofs.Common.{◌≡◌, ◌++◌, drop}
use Rattle.std.specs.Prelude.{flat_map}
use Rattle.ap_pieces.specs.Pieces.{literal_signatures}
use Rattle.ap_pieces.proofs.aggregates.push_signatures.Given as goal

abbrev pub invariant-loop-literal : goal.invariant-loop-literal
invariant-loop-literal l = l.initial.found ++ flat_map literal_signatures l.literals ≡ l.found ++ flat_map literal_signatures (drop l.literal-index l.literals)
