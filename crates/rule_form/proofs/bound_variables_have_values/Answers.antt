use Rattle.rule_form.proofs.PossibleValues.{bound_in}
use Rattle.rule_form.proofs.bound_variables_have_values.Goals as goal

pub returns : goal.returns
returns c = λ s body names vs steps holds within are name h. bound_in s body holds names vs within steps are name h
