use Rattle.theory_law.proofs.Appended.{behind_keeps, behind_sound, behind_complete, behind_one}
use Rattle.theory_law.proofs.behind.programs_behind_are_answer_sets.Goals as goal

pub returns : goal.returns
returns c = record {
  keeps = λ t g joins f can. behind_keeps t g joins can f;
  sound = λ t g joins f can. behind_sound t g joins can f;
  complete = λ t g joins f x can. behind_complete t g joins can f x;
  one = λ t g joins f h can. behind_one t g joins can f h;
}
