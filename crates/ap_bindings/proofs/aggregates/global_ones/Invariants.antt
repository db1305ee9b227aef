use Rattle.std.proofs.Common.{◌≡◌, ◌++◌, drop}
use Rattle.std.specs.List.{filter}
use Rattle.ap_pieces.specs.Bound.{is_among}
use Rattle.ap_bindings.specs.Searches.{names_in}
use Rattle.ap_bindings.proofs.aggregates.global_ones.Given as goal

abbrev pub invariant-loop-occurrence : goal.invariant-loop-occurrence
invariant-loop-occurrence l = filter (is_among (names_in l.globals)) l.occurrences ≡ l.found ++ filter (is_among (names_in l.globals)) (drop l.occurrence-index l.occurrences)
