-- What is true of every solver.
use Rattle.std.specs.Prelude.{◌≡◌, ℕ, ◌+◌, ◌≤◌, List, length}
use Rattle.std.specs.List.{All}
use Rattle.theory_form.specs.declared.literals.Lit.{Lit}
use Rattle.proof_log.specs.States.{StateView}
use Rattle.asp_engine.specs.declared.engine.Engine.{Engine}
use Rattle.asp_engine.specs.declared.periods.Query.{Query}
use Rattle.asp_engine.specs.Keys.{AreUnmarked, HasTaken}
use Rattle.asp_engine.specs.Periods.{IsPeriod}
use Rattle.asp_solver.specs.Conditions.{CanSearch}
use Rattle.asp_solver.specs.Views.{AreApart}

-- what is true of an engine that takes a theory in, with the open queries over it, whose first periods have this length
pub record Holds (span : ℕ) (e : Engine) (queries : List Query) (taken : ℕ) : Type 0 where
  pub state : StateView
  pub has_taken : HasTaken taken e.theory e.log.steps e.parts.store e.parts.numbers.items state
  pub most : taken ≤ length e.theory.clauses
  pub places : e.parts.store.places ≤ length e.theory.variables + 1
  pub marks : AreUnmarked (length e.parts.marks) e.parts.marks
  pub span_is : e.parts.span ≡ span
  pub can_search : CanSearch e.theory
  pub apart : AreApart queries
  pub periods : All (λ (q : Query). IsPeriod span (length e.theory.variables) state q.period) queries
