use Rattle.theory_model.proofs.GrowthLemmas.{model_before}
use Rattle.theory_model.proofs.growth.models_of_beginnings.Goals as goal

pub returns : goal.returns
returns c = λ s t f e m. model_before s t e f m
