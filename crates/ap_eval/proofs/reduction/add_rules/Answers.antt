use Rattle.std.proofs.Common.{◌<◌, ◌+◌, length, sym, subst}
use Rattle.std.proofs.lemmas.List.{take_all}
use Rattle.definite.specs.Rules.{marked}
use Rattle.ground_form.specs.Ranges.{IsRuleOf}
use Rattle.ground_form.specs.declared.rules.GroundRule.{GroundRule}
use Rattle.ground_form.specs.declared.rules.Head.TheVariants.{One}
use Rattle.ap_eval.specs.Reductions.{AddsRules}
use Rattle.ap_eval.proofs.ReductionLemmas.{rules_more}
use Rattle.ap_eval.proofs.reduction.add_rules.Goals as goal

pub loop-rule-preserved : goal.loop-rule-preserved
loop-rule-preserved c = λ atoms all.
    let default : GroundRule = record { head = One (record { 0 = 0 }); body = record { 0 = 0 } } in
    let i = c.loop-rule.rule-index in
    let range = subst (λ n. IsRuleOf atoms n (Rattle.std.proofs.Common.get_or c.args.program.now i default)) (sym c.loop-rule.auto.rules) (all i default c.loop-rule-test.true) in
    rules_more c.args.kept.now (marked c.args.x.now) (atoms + 1) c.args.rules.now c.loop-rule.rules c.add_rule.new.rules c.args.program.now i default c.loop-rule-test.true (c.loop-rule.invariant atoms all) (c.in_ok-add_rule.ensures atoms range)

pub returns : goal.returns
returns c = λ atoms all.
    subst (AddsRules c.args.kept.now (marked c.args.x.now) (atoms + 1) c.args.rules.now c.loop-rule.rules) (take_all c.loop-rule.rule-index c.args.program.now c.loop-rule-test.false) (c.loop-rule.invariant atoms all)
