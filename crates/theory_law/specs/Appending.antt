-- Programs behind a theory.
use Rattle.std.specs.Prelude.{List, length}
use Rattle.theory_form.specs.declared.literals.Lit.{Lit}
use Rattle.theory_form.specs.Theories.{TheoryView, IsTheory}
use Rattle.ground_form.specs.Programs.{Parts}
use Rattle.ground_form.specs.Ranges.{IsInRange}
use Rattle.theory_build.specs.Completion.{HasBase}
use Rattle.theory_model.specs.Whole.{AreOver, IsWhole}

-- The program may stand behind the theory, with these literals joined to its inputs: the theory begins with a program's own
-- theory, it names its own variables alone, and the literals are over them.
pub record CanStandBehind (t : TheoryView) (g : Parts) (lits : List Lit) : Type 0 where
  pub theory : IsTheory t
  pub base : HasBase t
  pub whole : IsWhole t
  pub joins : AreOver (length t.variables) lits
  pub program : IsInRange g
