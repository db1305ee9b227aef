use Rattle.std.proofs.Common.{IsTrue}
use Rattle.optima_law.proofs.Grounds.{ground_optima}
use Rattle.optima_law.proofs.optimal_or_better.Goals as goal
use Rattle.rule_form.proofs.Decided.{decide_true}

pub returns : goal.returns
returns c g better = ground_optima g (λ x y. IsTrue (better x y)) (λ x y. decide_true (better x y))
