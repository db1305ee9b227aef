-- What a solver keeps while its theory is lent.
use Rattle.std.specs.Prelude.{◌≡◌, ℕ, List}
use Rattle.theory_form.specs.Theories.{TheoryView}
use Rattle.proof_log.specs.declared.steps.Step.{Step}
use Rattle.proof_log.specs.Steps.{LogView}
use Rattle.asp_engine.specs.declared.engine.Engine.{Engine}
use Rattle.asp_engine.specs.declared.engine.Parts.{Parts}
use Rattle.asp_engine.specs.declared.periods.Query.{Query}
use Rattle.asp_solver.specs.Calls.{first_span}
use Rattle.asp_solver.specs.Holding.{Holds}

-- the parts of an engine without its theory and its log, the open queries, and how much of the theory was taken in
pub record RestView : Type 0 where
  pub parts : Parts
  pub queries : List Query
  pub taken : ℕ

-- the rest of a solver with this theory and a log of these steps
abbrev pub IsLent : TheoryView → LogView → RestView → Type 0
IsLent t log rest = Holds first_span (record { theory = t; log = log; parts = rest.parts }) rest.queries rest.taken
