use Rattle.std.proofs.Common.{◌∙◌, sym, subst, List, All}
use Rattle.definite.specs.declared.Rule.{Rule}
use Rattle.definite.specs.Rules.{IsRuleOf, IsDerived}
use Rattle.pred_graph.proofs.LeadLemmas.{rules_below, leading_marks}
use Rattle.pred_graph.proofs.decided.leading.Goals as goal

pub least-requires : goal.least-requires
least-requires c =
    let same = c.as_slice.ensures.value ∙ c.in_ok-rules.ensures in
    subst (λ (rules : List Rule). All (IsRuleOf c.args.size) rules) (sym same) (rules_below c.args.size c.args.edges.now c.args.nodes.now c.requires.edges c.requires.nodes)

pub returns : goal.returns
returns c =
    let same = c.as_slice.ensures.value ∙ c.in_ok-rules.ensures in
    leading_marks c.args.edges.now c.args.nodes.now c.args.size c.in_ok-found.found
    (subst (λ (rules : List Rule). IsDerived rules c.args.size c.in_ok-found.found) same c.in_ok-found.ensures)
