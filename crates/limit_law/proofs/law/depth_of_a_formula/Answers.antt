use Rattle.limit_law.proofs.Rules.{behind}
use Rattle.limit_law.proofs.law.depth_of_a_formula.Goals as goal

pub returns-clause-depth : goal.returns-clause-depth
returns-clause-depth c = λ s read rest f i. (behind i).level

pub returns-clause-outer : goal.returns-clause-outer
returns-clause-outer c = λ s read rest f i. (behind i).outer

pub returns-clause-commas : goal.returns-clause-commas
returns-clause-commas c = λ s read rest f i. (behind i).commas
