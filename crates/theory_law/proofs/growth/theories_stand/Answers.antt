use Rattle.theory_law.proofs.Standing.{base_stands, more_stands, program_stands, skipped_stands}
use Rattle.theory_law.proofs.growth.theories_stand.Goals as goal

pub returns : goal.returns
returns c = record {
  base = λ g range. base_stands g range;
  behind = λ g t h joins stands can. program_stands t h joins can g stands;
  plain = λ g t new kinds slots stands more. more_stands g t new kinds slots stands more;
  skipped = λ g t reserved stands. skipped_stands g t reserved stands;
}
