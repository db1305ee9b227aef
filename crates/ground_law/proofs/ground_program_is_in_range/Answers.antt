use Rattle.ground_law.proofs.InRange.{in_range}
use Rattle.ground_law.proofs.ground_program_is_in_range.Goals as goal

pub returns : goal.returns
returns c = λ table st assigned g judges p few small. in_range table st assigned judges g p few small
