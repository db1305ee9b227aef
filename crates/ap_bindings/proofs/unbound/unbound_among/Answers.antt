use Rattle.std.proofs.Common.{arith, sym, ◌∙◌, ap, ap₂, subst, List, [], ◌∷◌, ◌++◌, take}
use Rattle.std.proofs.lemmas.List.{take_more}
use Rattle.ap_pieces.specs.declared.pieces.Piece.{Piece}
use Rattle.ap_pieces.specs.Bound.{AreUnboundAmong}
use Rattle.ap_bindings.specs.Searches.{names_in, marked_in, first_or}
use Rattle.ap_bindings.specs.Unsafe.{definite_by}
use Rattle.ap_bindings.proofs.UnboundLemmas.{unbound_more, first_append}
use Rattle.ap_bindings.proofs.unbound.unbound_among.Goals as goal

pub loop-piece-preserved : goal.loop-piece-preserved
loop-piece-preserved c =
    let definite = definite_by c.args.safe.now in
    let global = names_in c.args.globals.now in
    let outside = marked_in c.args.outside.now in
    let pieces = c.args.pieces.now in
    let i = c.loop-piece.piece-index in
    let piece = c.piece-item.result in
    let before = c.loop-piece.invariant in
    let here = c.in_ok-here.ensures in (
      before.0 ++ here.0,
      subst (λ (ps : List Piece). AreUnboundAmong definite global outside ps (before.0 ++ here.0))
          (ap (λ p. take i pieces ++ p ∷ []) c.piece-item.is ∙ sym (take_more pieces i piece (omega arith)))
          (unbound_more definite global outside (take i pieces) piece before.0 here.0 before.1 here.1),
      c.first_of_both-first.ensures ∙ (ap₂ first_or before.2 here.2 ∙ sym (first_append before.0 here.0)),
    )
