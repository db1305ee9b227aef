use Rattle.theory_law.proofs.Excluding.{exclusion_carries, exclusion_extends, exclusion_guards, exclusion_stands}
use Rattle.theory_law.proofs.exclusion.exclusions_mean.Goals as goal

pub returns : goal.returns
returns c = record {
  guards = λ g t set f stands model on. exclusion_guards g t set stands f model on;
  extends = λ g t set f stands model allowed. exclusion_carries g t set stands f model allowed;
  stands = λ g t set stands. exclusion_stands g t set stands;
  grows = λ g t set stands. exclusion_extends g t set stands;
}
