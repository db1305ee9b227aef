use Rattle.std.proofs.Common.{take}
use Rattle.std.specs.Prelude.{flat_map}
use Rattle.std.specs.List.{list_all}
use Rattle.ap_pieces.specs.Bound.{is_closed, binders}
use Rattle.ap_bindings.specs.Searches.{names_in, Grows, AreRules, also}
use Rattle.ap_bindings.specs.Unsafe.{definite_by}
use Rattle.ap_bindings.proofs.binding.outer_rules.Given as goal

abbrev pub invariant-loop-piece : goal.invariant-loop-piece
invariant-loop-piece l = Grows l.initial.table l.table × AreRules l.table.names l.rules.items (λ z. list_all (is_closed (also (names_in l.given) z)) (flat_map (binders (definite_by l.safe) (names_in l.globals)) (take l.piece-index l.pieces)))
