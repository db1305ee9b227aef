use Rattle.theory_law.proofs.Bases.{base_whole}
use Rattle.theory_law.proofs.Appended.{base_begins, behind_base, behind_whole}
use Rattle.theory_law.proofs.behind.programs_can_stand_behind.Goals as goal

pub returns : goal.returns
returns c = record {
  base = λ g range. (base_begins g, base_whole g range);
  behind = λ t g joins can. (behind_base t g joins can, behind_whole t g joins can);
}
