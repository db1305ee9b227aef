-- Theories that a search can work on, and to which programs, variables and clauses can be added.
use Rattle.theory_form.specs.Theories.{TheoryView, Extends, IsTheory}
use Rattle.theory_model.specs.Bodies.{DefinesBodies}
use Rattle.theory_model.specs.Whole.{IsWhole}
use Rattle.ground_form.specs.Programs.{Parts}
use Rattle.theory_build.specs.Completion.{HasBase, base_theory}

-- The theory begins with the base theory of this program, it names its own variables alone, and its clauses define its bodies.
pub record StandsOn (g : Parts) (t : TheoryView) : Type 0 where
  pub theory : IsTheory t
  pub begins : Extends (base_theory g) t
  pub whole : IsWhole t
  pub bodies : DefinesBodies t

abbrev pub has_base : (g : Parts) (t : TheoryView) → StandsOn g t → HasBase t
has_base g t s = record { base = g; begins = s.begins }
