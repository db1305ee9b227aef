use Rattle.rule_form.proofs.static_by_predicates.Goals as goal
use Rattle.rule_form.proofs.ByPredicates.{by_predicates}

pub returns : goal.returns
returns c = by_predicates
