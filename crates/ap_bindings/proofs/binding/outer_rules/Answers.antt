use Rattle.std.proofs.Common.{arith, sym, ◌∙◌, ap, ◌+◌, Bool, ◌&&◌, List, take, get_or}
use Rattle.std.specs.Prelude.{flat_map}
use Rattle.std.specs.List.{list_all}
use Rattle.std.proofs.lemmas.List.Folds.{list_all-append}
use Rattle.ap_bindings.proofs.TakeLemmas.{flat_take}
use Rattle.ap_pieces.specs.declared.pieces.Mention.{Mention}
use Rattle.ap_pieces.specs.declared.pieces.Piece.{Piece}
use Rattle.ap_pieces.specs.Bound.{Names, is_closed, binders}
use Rattle.ap_bindings.specs.Searches.{names_in, also}
use Rattle.ap_bindings.specs.Unsafe.{definite_by}
use Rattle.ap_bindings.proofs.BindingLemmas.{grows_twice, rules_same}
use Rattle.ap_bindings.proofs.binding.outer_rules.Goals as goal

pub loop-piece-preserved : goal.loop-piece-preserved
loop-piece-preserved c =
    let i = c.loop-piece.piece-index in
    let pieces = c.args.pieces.now in
    let piece = c.piece-item.result in
    let binds : Piece → List Mention = binders (definite_by c.args.safe.now) (names_in c.args.globals.now) in
    let test : Names → List Mention → Bool = λ z. list_all (is_closed (also (names_in c.args.given.now) z)) in (
      grows_twice c.args.table.now c.loop-piece.table c.push_piece.new.table c.loop-piece.invariant.0 c.in_ok-push_piece.ensures.grows,
      rules_same c.push_piece.new.table.names c.push_piece.new.rules.items
          (λ z. test z (flat_map binds (take i pieces)) && test z (binds piece))
          (λ z. test z (flat_map binds (take (i + 1) pieces)))
          (λ z. sym (ap (test z) (flat_take binds pieces i piece (omega arith)) ∙ (list_all-append (is_closed (also (names_in c.args.given.now) z)) (flat_map binds (take i pieces)) (binds (get_or pieces i piece)) ∙ ap (λ p. test z (flat_map binds (take i pieces)) && test z (binds p)) (sym c.piece-item.is))))
          (c.in_ok-push_piece.ensures.rules (λ z. test z (flat_map binds (take i pieces))) c.loop-piece.invariant.1),
    )
