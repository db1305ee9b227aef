-- Clauses of loops and sums, and what it takes to keep a clause.
use Rattle.std.specs.Prelude.{◌≡◌, ℕ, Bool, List, ◌∷◌, length, Option}
use Rattle.theory_form.specs.declared.literals.Lit.{Lit}
use Rattle.theory_form.specs.declared.literals.Var.{Var}
use Rattle.theory_form.specs.Theories.{TheoryView}
use Rattle.theory_model.specs.Loops.{IsLoopClause}
use Rattle.theory_model.specs.Whole.{AreOver}
use Rattle.loop_nogoods.specs.Sets.{has}
use Rattle.agg_nogoods.specs.Implied.{IsFalseOrUnit}
use Rattle.proof_log.specs.declared.steps.Step.{Step}
use Rattle.proof_log.specs.declared.steps.Step.TheVariants.{Loop}
use Rattle.proof_log.specs.After.{IsAfter}
use Rattle.proof_log.specs.Logs.{IsNewStep, IsStepOver}
use Rattle.proof_log.specs.States.{StateView, with_clause}
use Rattle.proof_log.specs.Steps.{IsJudged, IsStep}
use Rattle.proof_log.specs.Valid.{IsValid}
use Rattle.asp_engine.specs.declared.additions.Late.{Late}
use Rattle.asp_engine.specs.Keys.{IsSameTheory}
use Rattle.asp_engine.specs.Moves.{Does, GoesOn, Moment, learns}

-- the step is valid, learns nothing that is not new, and adds this clause
pub record Brings (v : StateView) (step : Step) (c : List Lit) : Type 0 where
  pub valid : IsValid v step
  pub after : IsAfter v step (with_clause v c)
  pub is_new : IsNewStep v step

-- A clause that is false or unit under the assignment, with a step that brings it and learns nothing.
pub record IsLate (t : TheoryView) (a : List (Option Bool)) (l : Late) : Type 0 where
  pub step : IsStep l.step
  pub judged : IsJudged l.step
  pub listed : IsStepOver (length t.variables) l.step
  pub brings : (v : StateView) → IsSameTheory v.theory t → Brings v l.step l.clause
  pub does : (span : ℕ) (held : ℕ → Bool) (m n : Moment) → GoesOn m n → Does span held m l.step n
  pub learns : learns l.step ≡ 0
  pub told : IsFalseOrUnit a l.clause
  pub over : AreOver (length t.variables) l.clause

-- the loop clause of the first member of a set of atoms, with its step
pub record IsLoopOf (t : TheoryView) (set : List Var) (l : Late) : Type 0 where
  pub atom : Var
  pub others : List Var
  pub set_is : atom ∷ others ≡ set
  pub clause : IsLoopClause t (has set) atom.0 l.clause
  pub step : l.step ≡ Loop atom others
