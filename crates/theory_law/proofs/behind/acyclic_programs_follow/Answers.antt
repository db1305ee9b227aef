use Rattle.theory_law.proofs.Appended.{acyclic_extends, acyclic_one, acyclic_says}
use Rattle.theory_law.proofs.behind.acyclic_programs_follow.Goals as goal

pub returns : goal.returns
returns c = record {
  extends = λ t g joins f can acyclic only. acyclic_extends t g joins can acyclic only f;
  one = λ t g joins f h can acyclic only. acyclic_one t g joins can acyclic only f h;
  says = λ t g joins f can acyclic only. acyclic_says t g joins can acyclic only f;
}
