use Rattle.std.proofs.Common.{sym, ◌∙◌}
use Rattle.agg_nogoods.proofs.RuleLemmas.{rule_implied, implied_rule, implied_holds}
use Rattle.agg_nogoods.proofs.rule.implied.Goals as goal

pub returns-clause-exact : goal.returns-clause-exact
returns-clause-exact c = (
  λ yes. rule_implied c.args.row.now c.args.c.now c.requires.row c.requires.consistent (sym c.follows_by_ends.ensures ∙ yes),
  λ i. c.follows_by_ends.ensures ∙ implied_rule c.args.row.now c.args.c.now c.requires.row c.requires.consistent i,
)

pub returns-clause-holds : goal.returns-clause-holds
returns-clause-holds c =
    λ yes. implied_holds c.args.row.now c.args.c.now (rule_implied c.args.row.now c.args.c.now c.requires.row c.requires.consistent (sym c.follows_by_ends.ensures ∙ yes))
