use Rattle.std.proofs.Common.{◌≡◌, take, List, ℕ}
use Rattle.std.specs.Prelude.{flat_map}
use Rattle.std.specs.List.{list_any}
use Rattle.ap_pieces.specs.Bound.{is_name_of, global_occurrences}
use Rattle.ap_bindings.specs.Searches.{names_in}
use Rattle.ap_bindings.proofs.globals.globals_of.Given as goal

abbrev pub invariant-loop-piece : goal.invariant-loop-piece
invariant-loop-piece l = (other : List ℕ) → names_in l.set other ≡ list_any (is_name_of other) (flat_map global_occurrences (take l.piece-index l.pieces))
