use Rattle.std.proofs.Common.{sym, ◌∙◌, subst, ℕ, List, [], ◌∷◌, Option}
use Rattle.ap_pieces.specs.declared.pieces.Piece.{Piece}
use Rattle.ap_bindings.specs.declared.search.Failing.{Failing}
use Rattle.ap_pieces.specs.Pieces.{rule_source}
use Rattle.ap_bindings.specs.Searches.{IsFirstUnbound}
use Rattle.ap_bindings.specs.Unsafe.{definite_by, IsFirstUnsafe}
use Rattle.ap_bindings.proofs.SourceLemmas.{source_unsafe}
use Rattle.ap_bindings.proofs.sources.rule_fault.Goals as goal

pub returns : goal.returns
returns c =
    let source = rule_source c.args.rule.now in
    subst (λ (f : Option (Failing (List ℕ))). IsFirstUnsafe (definite_by c.args.safe.now) (source ∷ []) f) (sym c.failing.ensures)
    (source_unsafe (definite_by c.args.safe.now) source c.in_ok-variable.variable
    (subst (λ (ps : List Piece). IsFirstUnbound (definite_by c.args.safe.now) ps c.in_ok-variable.variable) (c.as_slice.ensures ∙ c.in_ok-pieces.ensures) c.in_ok-variable.ensures))
