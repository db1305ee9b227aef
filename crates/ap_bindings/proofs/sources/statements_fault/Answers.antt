use Rattle.std.proofs.Common.{arith, sym, ◌∙◌, ap, subst, ℕ, ◌+◌, List, ◌++◌, take, map, Option}
use Rattle.std.specs.Prelude.{flat_map}
use Rattle.std.proofs.lemmas.List.{take_all}
use Rattle.ap_syntax.specs.declared.preferences.Element.{Element}
use Rattle.ap_bindings.specs.declared.search.Failing.{Failing}
use Rattle.ap_pieces.specs.Pieces.{element_source, statement_sources}
use Rattle.ap_bindings.specs.Unsafe.{definite_by, IsFirstUnsafe}
use Rattle.ap_bindings.proofs.TakeLemmas.{flat_take}
use Rattle.ap_bindings.proofs.SourceLemmas.{more_sources}
use Rattle.ap_bindings.proofs.sources.statements_fault.Goals as goal

pub loop-statement-preserved : goal.loop-statement-preserved
loop-statement-preserved c =
    let list = c.args.statements.now in
    let i = c.loop-statement.statement-index in
    let here = c.statement-item.result in
    subst (λ (f : Option (Failing (List ℕ))). IsFirstUnsafe (definite_by c.args.safe.now) (flat_map (statement_sources) (take (i + 1) list)) f) (sym c.earlier-first.ensures)
    (more_sources (definite_by c.args.safe.now) (flat_map (statement_sources) (take i list)) (statement_sources here) (flat_map (statement_sources) (take (i + 1) list)) c.loop-statement.first c.in_ok-here.here
    (flat_take (statement_sources) list i here (omega arith) ∙ ap (λ x. flat_map (statement_sources) (take i list) ++ statement_sources x) (sym c.statement-item.is))
    c.loop-statement.invariant (subst (λ (es : List Element). IsFirstUnsafe (definite_by c.args.safe.now) (map (element_source c.statement-item.result.file) es) c.in_ok-here.here) c.as_slice.ensures c.in_ok-here.ensures))

pub returns : goal.returns
returns c = subst (λ xs. IsFirstUnsafe (definite_by c.args.safe.now) (flat_map (statement_sources) xs) c.loop-statement.first) (take_all c.loop-statement.statement-index c.args.statements.now (omega arith)) c.loop-statement.invariant
