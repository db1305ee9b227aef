use Rattle.std.proofs.Common.{take}
use Rattle.ap_bindings.specs.Searches.{names_in, marked_in, IsFirstAmong}
use Rattle.ap_bindings.specs.Unsafe.{definite_by}
use Rattle.ap_bindings.proofs.unbound.unbound_among.Given as goal

abbrev pub invariant-loop-piece : goal.invariant-loop-piece
invariant-loop-piece l = IsFirstAmong (definite_by l.safe) (names_in l.globals) (marked_in l.outside) (take l.piece-index l.pieces) l.first
