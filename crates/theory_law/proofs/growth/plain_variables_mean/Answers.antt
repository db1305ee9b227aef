use Rattle.theory_law.proofs.PlainLemmas.{more_means}
use Rattle.theory_law.proofs.growth.plain_variables_mean.Goals as goal

pub returns : goal.returns
returns c = λ t new kinds slots f whole more. more_means t new kinds slots more whole f
