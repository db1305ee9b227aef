use Rattle.std.proofs.Common.{sym, subst}
use Rattle.join_form.specs.Patterns.{IsPatternOf}
use Rattle.join_search.proofs.tests.matches_again.Goals as goal

pub match_pattern-requires-clause-pattern : goal.match_pattern-requires-clause-pattern
match_pattern-requires-clause-pattern g c = c.requires c.args.terms.now

pub number_of-requires-clause-pattern : goal.number_of-requires-clause-pattern
number_of-requires-clause-pattern g c = subst (λ n. IsPatternOf c.args.terms.now n c.args.pattern.now) (sym c.match_pattern.auto.binding) (c.requires c.args.terms.now)

pub evaluate-requires-clause-pattern : goal.evaluate-requires-clause-pattern
evaluate-requires-clause-pattern g c = subst (λ n. IsPatternOf c.args.terms.now n c.args.pattern.now) (sym c.match_pattern.auto.binding) (c.requires c.args.terms.now)
