use Rattle.ground_law.proofs.Shown.{is_shown}
use Rattle.ground_law.proofs.bound_variables_are_shown.Goals as goal

pub returns : goal.returns
returns c = is_shown
