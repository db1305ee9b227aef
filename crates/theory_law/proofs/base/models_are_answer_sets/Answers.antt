use Rattle.theory_law.proofs.Bases.{base_sound, base_complete, base_one}
use Rattle.theory_law.proofs.base.models_are_answer_sets.Goals as goal

pub returns : goal.returns
returns c = record {
  sound = base_sound;
  complete = λ g x guard range answer. base_complete g range x guard answer;
  one = λ g f h range. base_one g range f h;
}
