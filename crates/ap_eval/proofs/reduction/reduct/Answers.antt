use Rattle.std.proofs.Common.{◌≡◌, ◌+◌, length, map, sym, ap, ◌∙◌, subst, []}
use Rattle.std.specs.Prelude.{All}
use Rattle.std.proofs.lemmas.List.{take_at}
use Rattle.definite.specs.Rules.{marked}
use Rattle.definite.specs.declared.Rule.{Rule}
use Rattle.ground_form.specs.Ranges.{IsGroupOf, IsRuleOf}
use Rattle.ground_form.specs.declared.rules.GroundRule.{GroundRule}
use Rattle.ap_eval.specs.Reductions.{group_value, body_of, positives_in, AddsRules, IsReduct}
use Rattle.ap_eval.proofs.ReductionLemmas.{start_length, reduct_whole}
use Rattle.ap_eval.proofs.reduction.reduct.Goals as goal

pub group_values-requires : goal.group_values-requires
group_values-requires c =
    let n = length c.args.g.now.atoms in
    (n, subst (All (IsGroupOf n)) (sym c.groups.ensures.value) c.groups.ensures.in_range.groups)

pub add_rules-requires-clause-range : goal.add_rules-requires-clause-range
add_rules-requires-clause-range c =
    let g = c.args.g.now in
    let n = length g.atoms in
    let size = ap length c.deref_mut.ensures.value ∙ start_length c.in_ok-rules.rules.items g.bodies (c.in_ok-rules.ensures.bodies ∙ ap (map positives_in) c.bodies.ensures.value) in
    (n, subst (All (IsRuleOf n (length c.deref_mut.result.now))) (sym c.rules.ensures.value) (subst (λ m. All (IsRuleOf n m) g.rules) (sym size) c.groups.ensures.in_range.rules))

pub returns : goal.returns
returns c =
    let g = c.args.g.now in
    let x = marked c.args.x.now in
    let n = length g.atoms in
    let start = c.deref_mut.result.now in
    let new = c.add_rules.new.rules in
    let bodies = ap (map body_of) c.deref_mut.ensures.value ∙ (c.in_ok-rules.ensures.bodies ∙ ap (map positives_in) c.bodies.ensures.value) in
    let size = start_length start g.bodies bodies in
    let range = subst (All (IsRuleOf n (length start))) (sym c.rules.ensures.value) (subst (λ m. All (IsRuleOf n m) g.rules) (sym size) c.groups.ensures.in_range.rules) in
    let adds = subst (AddsRules c.deref-2.result.now x (n + 1) start new) c.rules.ensures.value (c.in_ok-add_rules.ensures n range) in
    let whole = reduct_whole g x c.deref.result.now c.deref-2.result.now start new c.groups.ensures.in_range
    (c.deref.ensures.value ∙ (c.in_ok-values.ensures ∙ ap (map (group_value x)) c.groups.ensures.value))
    (c.deref-2.ensures.value ∙ c.in_ok-kept.ensures)
    bodies
    (subst (All (λ (rule : Rule). rule.heads ≡ [])) (sym c.deref_mut.ensures.value) c.in_ok-rules.ensures.heads)
    adds in
    subst (IsReduct g x) (sym (take_at new _ c.in_ok-rules.rules.len (c.add_rules.auto.rules ∙ c.deref_mut.ensures.len))) whole
