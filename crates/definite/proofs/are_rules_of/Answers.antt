use Rattle.std.proofs.Common.{sym, ◌∙◌, subst, take, refl}
use Rattle.std.proofs.lemmas.Bool.{false≢true}
use Rattle.std.proofs.lemmas.List.{take_all}
use Rattle.std.proofs.lemmas.List.Elements.{All-more, All-same}
use Rattle.definite.specs.Rules.{IsRuleOf}
use Rattle.definite.proofs.are_rules_of.Goals as goal

pub returns-then-not-is_rule_of : goal.returns-then-not-is_rule_of
returns-then-not-is_rule_of c = (
  λ h. absurd (false≢true h),
  λ all.
      let here = subst (IsRuleOf c.args.atoms) (sym c.rule-item.is) (all c.loop-rule.rule-index c.rule-item.result c.loop-rule-test.true) in
      absurd (false≢true (sym c.if-not-is_rule_of.true ∙ c.is_rule_of.ensures.1 here)),
)

pub loop-rule-preserved : goal.loop-rule-preserved
loop-rule-preserved c =
    let P = IsRuleOf c.args.atoms in
    All-more P c.args.rules.now c.loop-rule.rule-index c.rule-item.result c.loop-rule-test.true c.loop-rule.invariant
    (subst P c.rule-item.is (c.is_rule_of.ensures.0 c.if-not-is_rule_of.false))

pub returns : goal.returns
returns c = (
  λ _. All-same (IsRuleOf c.args.atoms) c.args.rules.now (take c.loop-rule.rule-index c.args.rules.now) (sym (take_all c.loop-rule.rule-index c.args.rules.now c.loop-rule-test.false)) c.loop-rule.invariant,
  λ _. refl,
)
