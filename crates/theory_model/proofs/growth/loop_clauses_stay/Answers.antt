use Rattle.theory_model.proofs.GrowthLemmas.{loop_clause_longer, loop_clause_over}
use Rattle.theory_model.proofs.growth.loop_clauses_stay.Goals as goal

pub returns : goal.returns
returns c = record {
  over = λ t block u v d whole atoms member clause. loop_clause_over t block u v d whole atoms member clause;
  stays = λ s t block u v d e whole atoms clause. loop_clause_longer s t e whole block u v d atoms clause;
}
