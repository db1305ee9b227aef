use Rattle.std.proofs.Common.{◌≡◌, ◌++◌, drop}
use Rattle.std.specs.Prelude.{flat_map}
use Rattle.ap_pieces.specs.Pieces.{literal_occurrences}
use Rattle.ap_pieces.proofs.aggregates.push_literals.Given as goal

abbrev pub invariant-loop-literal : goal.invariant-loop-literal
invariant-loop-literal l = l.initial.found ++ flat_map literal_occurrences l.literals ≡ l.found ++ flat_map literal_occurrences (drop l.literal-index l.literals)
