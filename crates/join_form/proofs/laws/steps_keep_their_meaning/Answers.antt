use Rattle.join_form.proofs.StepLemmas.{step_kept}
use Rattle.join_form.proofs.laws.steps_keep_their_meaning.Goals as goal

pub returns : goal.returns
returns c old new places rows a step keeps is = step_kept old new keeps places rows a step is
