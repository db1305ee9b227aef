use Rattle.std.proofs.Common.{◌<◌, ◌+◌, length, sym, ap, ◌∙◌, subst, arith}
use Rattle.std.specs.Prelude.{All}
use Rattle.std.proofs.lemmas.List.{take_at}
use Rattle.definite.specs.declared.Rule.{Rule}
use Rattle.ground_form.specs.Ranges.{IsHeadOf}
use Rattle.ground_form.specs.declared.rules.GroundRule.{GroundRule}
use Rattle.ap_eval.proofs.LooksLemmas.{looks_whole}
use Rattle.ap_eval.specs.Looks.{AddsRules, AreLooks, looked_by}
use Rattle.ap_eval.proofs.looks.looks.Goals as goal

pub add_rules-requires : goal.add_rules-requires
add_rules-requires c =
    let n = length c.args.g.now.atoms in
    let heads = subst (All (λ (rule : GroundRule). IsHeadOf n rule.head)) (sym c.rules.ensures.value) (λ k d lt. (c.rules.ensures.in_range.rules k d lt).head) in
    let size = ap length c.deref_mut.ensures.value ∙ (c.in_ok-looks.ensures.size ∙ ap (λ atoms. length atoms + 1) c.atoms.ensures.value) in
    (n, heads, omega (arith, size))

pub returns : goal.returns
returns c =
    let g = c.args.g.now in
    let start = c.in_ok-looks.looks.items in
    let new = c.add_rules.new.looks in
    let adds = subst (λ (looks : Rattle.std.specs.Prelude.List Rule). AddsRules g looks new g.rules) c.deref_mut.ensures.value
    (subst (AddsRules g c.deref_mut.result.now new) c.rules.ensures.value c.in_ok-add_rules.ensures) in
    let whole = looks_whole g start new c.in_ok-looks.ensures.looked c.in_ok-looks.ensures.heads (c.in_ok-looks.ensures.size ∙ ap (λ atoms. length atoms + 1) c.atoms.ensures.value) adds in
    subst (AreLooks g) (sym (take_at new _ c.in_ok-looks.looks.len (c.add_rules.auto.looks ∙ c.deref_mut.ensures.len))) whole
