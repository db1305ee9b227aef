use Rattle.std.proofs.Common.{subst}
use Rattle.proof_log.specs.Steps.{IsStep}
use Rattle.proof_log.proofs.states.judge.Goals as goal

pub is_sum_clause-requires : goal.is_sum_clause-requires
is_sum_clause-requires c = (subst IsStep c.in-Sum.is c.requires.step).consistent

pub returns-in-Learn-clause-judged : goal.returns-in-Learn-clause-judged
returns-in-Learn-clause-judged c =
    rw (← c.state.view_is, c.in-Learn.is) (rw c.as_slice.ensures at c.judge_learned.ensures.judged)
