-- What learning a clause does to an engine and to the period of a query.
use Rattle.std.specs.Prelude.{◌≡◌, ◌++◌, [], ◌∷◌, ℕ, Bool, true, List, length}
use Rattle.theory_form.specs.declared.literals.Lit.{Lit}
use Rattle.theory_form.specs.declared.literals.ClauseId.{ClauseId}
use Rattle.theory_model.specs.Whole.{AreOver}
use Rattle.asp_store.specs.Store.{Adds}
use Rattle.proof_log.specs.declared.steps.Step.TheVariants.{Learn}
use Rattle.proof_log.specs.States.{StateView, with_clause}
use Rattle.proof_log.specs.Steps.{IsStep}
use Rattle.asp_engine.specs.declared.engine.Engine.{Engine}
use Rattle.asp_engine.specs.declared.periods.Period.{Period}
use Rattle.asp_engine.specs.Answers.{eager_most}
use Rattle.asp_engine.specs.Keys.{IsIn}
use Rattle.asp_engine.specs.Lates.{Brings}
use Rattle.asp_engine.specs.Moves.{Went, WentTo}
use Rattle.asp_engine.specs.Periods.{ends}
use Rattle.asp_engine.specs.Search.{Stands}

-- a step that learns this clause was made, and nothing more
pub record Learns (old new : Engine) (c : List Lit) (v : StateView) : Type 0 where
  pub hints : List ClauseId
  pub step_is : IsStep (Learn c hints)
  pub over : AreOver (length v.theory.variables) c
  pub brings : Brings v (Learn c hints) c
  pub log : new.log.steps ≡ old.log.steps ++ Learn c hints ∷ []
  pub span : new.parts.span ≡ old.parts.span
  pub marks : new.parts.marks ≡ old.parts.marks
  pub is_in : IsIn new (with_clause v c)

-- no step was made
pub record Stays (old new : Engine) : Type 0 where
  pub is_in : (v : StateView) → IsIn old v → IsIn new v
  pub log : new.log.steps ≡ old.log.steps
  pub span : new.parts.span ≡ old.parts.span
  pub marks : new.parts.marks ≡ old.parts.marks

-- this clause was learned, and entered into the period
pub record LearnsInto (old new : Engine) (p q : Period) (c : List Lit) (key : ℕ) : Type 0 where
  pub adds : Adds old.parts.store.clauses new.parts.store.clauses key c
  pub eager : new.parts.eager ≡ eager_most
  pub ended : q.learned ≡ [] → ends old.parts.span p ≡ true
  pub went : (held : ℕ → Bool) → WentTo held old new p q 1 (ends old.parts.span p)

-- a clause was learned, and the decisions that are left stand
pub record HasLearned (old new : Engine) (assume : List Lit) (p q : Period) (key : ℕ) : Type 0 where
  pub clause : List Lit
  pub made : LearnsInto old new p q clause key
  pub stands : Stands new.parts.store.clauses new.parts.store.places assume new.parts.store.entries

-- nothing was learned
pub record IsIdle (old new : Engine) (p q : Period) : Type 0 where
  pub went : (held : ℕ → Bool) → Went held old new p q 0
  pub same : q ≡ p
