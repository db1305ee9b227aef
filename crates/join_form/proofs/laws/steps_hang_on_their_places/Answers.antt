use Rattle.std.proofs.Common.{refl}
use Rattle.join_form.proofs.StepLemmas.{step_same}
use Rattle.join_form.proofs.laws.steps_hang_on_their_places.Goals as goal

pub returns : goal.returns
returns c table rows a b step same = step_same table table rows a b step (same, λ id h. refl)
