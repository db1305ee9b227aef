use Rattle.std.specs.Prelude.{reverse}
use Rattle.proof_log.proofs.LogLemmas.{among_over, log_apart, log_true, log_within, logged_over}
use Rattle.proof_log.proofs.validity.logs_are_true.Goals as goal

pub returns : goal.returns
returns c = record {
  models = λ t steps added h f m id d at.
      log_true t f m (λ look places d hints follows all. c.follows_is_true.ensures look places d hints f follows all)
      (λ block u atoms v member d clause. c.loop_clause_is_true.ensures t f m block u atoms v member d clause) steps added h id d at;
  over = λ t steps added h whole id d at.
      among_over t whole added (logged_over t (λ block u v d atoms member clause. c.loop_clauses_stay.ensures.over t block u v d whole atoms member clause) (reverse steps) added h.last h.logged) id d at;
  apart = λ t steps added h id d at. log_apart t steps added h id d at;
  within = λ t steps added h id beyond. log_within t steps added h id beyond;
}
