use Rattle.proof_log.proofs.StepLemmas.{log_none, log_other, log_step}
use Rattle.proof_log.proofs.validity.steps_keep_logs.Goals as goal

pub returns : goal.returns
returns c = record {
  none = log_none;
  judged = log_step;
  others = log_other;
}
