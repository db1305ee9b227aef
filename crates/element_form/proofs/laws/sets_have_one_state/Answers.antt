use Rattle.element_form.proofs.StateLaw.{state_there, state_one}
use Rattle.element_form.proofs.laws.sets_have_one_state.Goals as goal

pub returns-clause-there : goal.returns-clause-there
returns-clause-there c = state_there

pub returns-clause-one : goal.returns-clause-one
returns-clause-one c = state_one
