use Rattle.std.proofs.Common.{◌≡◌, ◌∙◌, ◌+◌, ◌-◌, ℕ, ap, subst, sym, length, arith, get_or, List, refl}
use Rattle.std.specs.List.{zip, range_with_len}
use Rattle.std.proofs.lemmas.List.Elements.{All-same}
use Rattle.std.proofs.lemmas.List.FromFn.{length-map-range_with_len, get_or-map-range_with_len}
use Rattle.theory_form.specs.declared.literals.Lit.{Lit}
use Rattle.ground_form.specs.declared.rules.GroundRule.{GroundRule}
use Rattle.ground_form.specs.declared.rules.Head.TheVariants.{One}
use Rattle.ground_form.specs.Ranges.{IsNumberOf, IsRuleOf}
use Rattle.theory_build.specs.Bodies.{body_lit}
use Rattle.theory_build.proofs.HeadLemmas.{rules_more}
use Rattle.theory_build.proofs.heads.heads_of.Goals as goal

-- what stands past the end of a list of rules
abbrev no_rule : GroundRule
no_rule = record { head = One (record { 0 = 0 }); body = record { 0 = 0 } }

pub literal_of-requires : goal.literal_of-requires
literal_of-requires c =
    let g = c.args.g.now in
    let rules = c.rules-rule-items.result.now in
    let all = All-same (IsRuleOf (length g.atoms) (length g.bodies)) rules g.rules c.rules-rule-items.ensures.value c.rules-rule-items.ensures.in_range.rules in
    let count : length c.args.literals.now ≡ length g.bodies = ap length c.requires ∙ length-map-range_with_len (body_lit c.args.p.now g) 1 (length g.bodies) in
    subst (λ n. IsNumberOf n (get_or rules c.loop-rule.rule-index no_rule).body.0) (sym count) (all c.loop-rule.rule-index no_rule c.loop-rule-test.true).body

pub loop-rule-preserved : goal.loop-rule-preserved
loop-rule-preserved c =
    let p = c.args.p.now in
    let g = c.args.g.now in
    let rules = c.rules-rule-items.result.now in
    let i = c.loop-rule.rule-index in
    let rule = get_or rules i no_rule in
    let all = All-same (IsRuleOf (length g.atoms) (length g.bodies)) rules g.rules c.rules-rule-items.ensures.value c.rules-rule-items.ensures.in_range.rules in
    let number : IsNumberOf (length g.bodies) rule.body.0 = (all i no_rule c.loop-rule-test.true).body in
    let above = number.0 in
    let upto = number.1 in
    let literal : c.literal_of.result ≡ body_lit p g rule.body.0 =
    c.literal_of.ensures c.literal_of.result
    ∙ ap (λ (ls : List Lit). get_or ls (rule.body.0 - 1) c.literal_of.result) c.requires
    ∙ get_or-map-range_with_len (body_lit p g) 1 (length g.bodies) (rule.body.0 - 1) rule.body.0 c.literal_of.result (omega arith) (omega arith)
    in
    rules_more p g (zip g.inputs p.joins) rules i no_rule rule c.literal_of.result c.loop-rule.heads c.add.new.self c.loop-rule-test.true refl literal c.loop-rule.invariant c.in_ok-add.ensures
