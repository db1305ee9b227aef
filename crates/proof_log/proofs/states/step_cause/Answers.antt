use Rattle.std.proofs.Common.{Some, subst}
use Rattle.proof_log.specs.Valid.{Judged}
use Rattle.proof_log.proofs.CauseLemmas.{judged_one}
use Rattle.proof_log.proofs.states.step_cause.Goals as goal

pub returns-clause-some : goal.returns-clause-some
returns-clause-some c = λ first. (
  λ is. subst (Judged c.args.state.now c.args.step.now) is c.judge.ensures.judged,
  λ h. judged_one c.args.state.now c.args.step.now c.judge.result (Some first) c.judge.ensures.judged h,
)
