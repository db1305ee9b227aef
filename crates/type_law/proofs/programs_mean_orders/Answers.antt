use Rattle.type_law.proofs.Meaning.{program_means}
use Rattle.type_law.proofs.programs_mean_orders.Goals as goal

pub returns : goal.returns
returns c = program_means
