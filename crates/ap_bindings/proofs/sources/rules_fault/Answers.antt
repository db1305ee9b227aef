use Rattle.std.proofs.Common.{arith, sym, ◌∙◌, ap, subst, ℕ, ◌+◌, List, [], ◌∷◌, ◌++◌, take, map, Option}
use Rattle.std.proofs.lemmas.List.{take_all}
use Rattle.ap_bindings.specs.declared.search.Failing.{Failing}
use Rattle.ap_pieces.specs.Pieces.{rule_source}
use Rattle.ap_bindings.specs.Unsafe.{definite_by, IsFirstUnsafe}
use Rattle.ap_bindings.proofs.TakeLemmas.{map_take}
use Rattle.ap_bindings.proofs.SourceLemmas.{more_sources}
use Rattle.ap_bindings.proofs.sources.rules_fault.Goals as goal

pub loop-rule-preserved : goal.loop-rule-preserved
loop-rule-preserved c =
    let list = c.args.rules.now in
    let i = c.loop-rule.rule-index in
    let here = c.rule-item.result in
    subst (λ (f : Option (Failing (List ℕ))). IsFirstUnsafe (definite_by c.args.safe.now) (map (rule_source) (take (i + 1) list)) f) (sym c.earlier-first.ensures)
    (more_sources (definite_by c.args.safe.now) (map (rule_source) (take i list)) ((rule_source) here ∷ []) (map (rule_source) (take (i + 1) list)) c.loop-rule.first c.in_ok-here.here
    (map_take (rule_source) list i here (omega arith) ∙ ap (λ x. map (rule_source) (take i list) ++ (rule_source) x ∷ []) (sym c.rule-item.is))
    c.loop-rule.invariant c.in_ok-here.ensures)

pub returns : goal.returns
returns c = subst (λ xs. IsFirstUnsafe (definite_by c.args.safe.now) (map (rule_source) xs) c.loop-rule.first) (take_all c.loop-rule.rule-index c.args.rules.now (omega arith)) c.loop-rule.invariant
