use Rattle.std.proofs.Common.{◌≡◌, ◌||◌, take, List, ℕ}
use Rattle.std.specs.List.{list_any}
use Rattle.ap_pieces.specs.Bound.{is_name_of}
use Rattle.ap_bindings.specs.Searches.{names_in}
use Rattle.ap_bindings.proofs.globals.add_all.Given as goal

abbrev pub invariant-loop-occurrence : goal.invariant-loop-occurrence
invariant-loop-occurrence l = (other : List ℕ) → names_in l.set other ≡ (names_in l.initial.set other || list_any (is_name_of other) (take l.occurrence-index l.occurrences))
