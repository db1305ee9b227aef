use Rattle.proof_log.proofs.StayLemmas.{log_stays}
use Rattle.proof_log.proofs.validity.logs_stay_valid.Goals as goal

pub returns : goal.returns
returns c = λ s t steps added e whole fresh h.
    log_stays s t e whole (λ n m look d hints le within all follows. c.hints_hold_in_longer_theories.ensures n m look d hints le within all follows)
    (λ block u v d atoms member clause. c.loop_clauses_stay.ensures.over s block u v d whole atoms member clause)
    (λ block u v d atoms clause. c.loop_clauses_stay.ensures.stays s t block u v d e whole atoms clause) steps added fresh h
