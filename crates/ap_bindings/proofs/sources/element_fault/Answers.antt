use Rattle.std.proofs.Common.{sym, ◌∙◌, ap₂, subst, ℕ, List, [], ◌∷◌, ◌++◌, Option}
use Rattle.ap_pieces.specs.declared.pieces.Piece.{Piece}
use Rattle.ap_bindings.specs.declared.search.Failing.{Failing}
use Rattle.ap_pieces.specs.Pieces.{element_source}
use Rattle.ap_bindings.specs.Searches.{IsFirstUnbound}
use Rattle.ap_bindings.specs.Unsafe.{definite_by, IsFirstUnsafe}
use Rattle.ap_bindings.proofs.SourceLemmas.{source_unsafe}
use Rattle.ap_bindings.proofs.sources.element_fault.Goals as goal

pub returns : goal.returns
returns c =
    let source = element_source c.args.file c.args.element.now in
    subst (λ (f : Option (Failing (List ℕ))). IsFirstUnsafe (definite_by c.args.safe.now) (source ∷ []) f) (sym c.failing.ensures)
    (source_unsafe (definite_by c.args.safe.now) source c.in_ok-variable.variable
    (subst (λ (ps : List Piece). IsFirstUnbound (definite_by c.args.safe.now) ps c.in_ok-variable.variable)
    (c.as_slice.ensures ∙ (c.in_ok-push.ensures.ok ∙ ap₂ (λ ps p. ps ++ p ∷ []) c.new-pieces.ensures c.in_ok-piece_of.ensures)) c.in_ok-variable.ensures))
