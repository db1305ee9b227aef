use Rattle.theory_model.proofs.GrowthLemmas.{bodies_before}
use Rattle.theory_model.proofs.growth.bodies_stay_defined.Goals as goal

pub returns : goal.returns
returns c = λ s t e none defined. bodies_before s t e none defined
