use Rattle.order_law.proofs.SystemLaw.{module_means}
use Rattle.order_law.proofs.modules_tell_relations.Goals as goal

pub returns : goal.returns
returns c = module_means
