use Rattle.ground_law.proofs.One.{one_program}
use Rattle.ground_law.proofs.one_ground_program.Goals as goal

pub returns : goal.returns
returns c = λ table st g h distinct. one_program table distinct st g h
