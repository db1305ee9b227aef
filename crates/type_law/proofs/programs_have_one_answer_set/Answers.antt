use Rattle.element_form.specs.Facts.{IsFact}
use Rattle.type_law.proofs.Levels.{one_of}
use Rattle.type_law.proofs.programs_have_one_answer_set.Goals as goal

pub returns : goal.returns
returns c kind st asked = one_of kind (IsFact st asked)
