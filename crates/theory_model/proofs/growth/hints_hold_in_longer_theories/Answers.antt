use Rattle.theory_model.proofs.PlaceLemmas.{follows_wider}
use Rattle.theory_model.proofs.growth.hints_hold_in_longer_theories.Goals as goal

pub returns : goal.returns
returns c = λ n m look d hints le within all h. follows_wider n m look d hints le within all h
