use Rattle.std.proofs.Common.{arith, sym, ◌∙◌, ap, subst, ℕ, ◌+◌, List, [], ◌∷◌, ◌++◌, take, map, Option}
use Rattle.std.proofs.lemmas.List.{take_all}
use Rattle.ap_bindings.specs.declared.search.Failing.{Failing}
use Rattle.ap_pieces.specs.Pieces.{element_source}
use Rattle.ap_bindings.specs.Unsafe.{definite_by, IsFirstUnsafe}
use Rattle.ap_bindings.proofs.TakeLemmas.{map_take}
use Rattle.ap_bindings.proofs.SourceLemmas.{more_sources}
use Rattle.ap_bindings.proofs.sources.elements_fault.Goals as goal

pub loop-element-preserved : goal.loop-element-preserved
loop-element-preserved c =
    let list = c.args.elements.now in
    let i = c.loop-element.element-index in
    let here = c.element-item.result in
    subst (λ (f : Option (Failing (List ℕ))). IsFirstUnsafe (definite_by c.args.safe.now) (map (element_source c.args.file) (take (i + 1) list)) f) (sym c.earlier-first.ensures)
    (more_sources (definite_by c.args.safe.now) (map (element_source c.args.file) (take i list)) ((element_source c.args.file) here ∷ []) (map (element_source c.args.file) (take (i + 1) list)) c.loop-element.first c.in_ok-here.here
    (map_take (element_source c.args.file) list i here (omega arith) ∙ ap (λ x. map (element_source c.args.file) (take i list) ++ (element_source c.args.file) x ∷ []) (sym c.element-item.is))
    c.loop-element.invariant c.in_ok-here.ensures)

pub returns : goal.returns
returns c = subst (λ xs. IsFirstUnsafe (definite_by c.args.safe.now) (map (element_source c.args.file) xs) c.loop-element.first) (take_all c.loop-element.element-index c.args.elements.now (omega arith)) c.loop-element.invariant
