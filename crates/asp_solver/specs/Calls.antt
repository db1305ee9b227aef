-- What a call of a solver does.
use Rattle.std.specs.Prelude.{◌≡◌, ◌≢◌, ℕ, ◌+◌, ◌<◌, ◌++◌, ◌⊎◌, List, length, Option, Some, None}
use Rattle.theory_form.specs.declared.literals.Lit.{Lit}
use Rattle.theory_form.specs.Theories.{Extends}
use Rattle.proof_log.specs.declared.steps.Step.{Step}
use Rattle.proof_log.specs.States.{StateView}
use Rattle.asp_engine.specs.declared.periods.Period.{Period}
use Rattle.asp_engine.specs.Moves.{Leads, Moment, at_moment, learned}
use Rattle.asp_engine.specs.Periods.{enough, learned_by}
use Rattle.asp_solver.specs.declared.answers.Turn.{Turn}
use Rattle.asp_solver.specs.declared.answers.Turn.TheVariants.{Found, Refuted, Spent, Again, Memory}
use Rattle.asp_solver.specs.Views.{IsStateOf, SolverView, held_by, next_period, period_of}

-- the length of a first period
abbrev pub first_span : ℕ
first_span = 2000

-- The steps that a call for these assumptions made lead from the state before to the one after, and from the present period of the query
-- to this one; so many of them learned.
pub record Made (span : ℕ) (old new : SolverView) (assume : List Lit) (n : ℕ) (period : Period) (v : StateView) : Type 0 where
  pub steps : List Step
  pub end : Moment
  pub leads : Leads span (held_by old.queries assume) (at_moment v (next_period old.queries assume)) steps end
  pub period_is : end.period ≡ period
  pub log : new.log.steps ≡ old.log.steps ++ steps
  pub state : IsStateOf new.theory new.log.steps end.state
  pub count : learned steps ≡ n

-- What a call for these assumptions did, in which so many clauses were learned: the query came to this period.
pub record Did (span : ℕ) (old new : SolverView) (assume : List Lit) (n : ℕ) (period : Period) : Type 0 where
  pub made : (v : StateView) → IsStateOf old.theory old.log.steps v → Made span old new assume n period v
  pub variables : new.theory.variables ≡ old.theory.variables
  pub blocks : new.theory.blocks ≡ old.theory.blocks
  pub extends : Extends old.theory new.theory
  pub others : (a : List Lit) → a ≢ assume → period_of new.queries a ≡ period_of old.queries a
  pub total : learned_by span period ≡ learned_by span (next_period old.queries assume) + n
  pub few : learned_by span period < enough span (length new.theory.variables)

-- What the answer leaves of the query that came to this period: it is closed, or open in that period. Where memory ran out before it was
-- opened, it is as it was.
abbrev pub Leaves : SolverView → SolverView → List Lit → ℕ → Period → Turn → Type 0
Leaves old new assume n period (Found x) = period_of new.queries assume ≡ None
Leaves old new assume n period (Refuted k) = period_of new.queries assume ≡ None
Leaves old new assume n period Spent = period_of new.queries assume ≡ Some period
Leaves old new assume n period Again = period_of new.queries assume ≡ Some period
Leaves old new assume n period Memory = (period_of new.queries assume ≡ Some period) ⊎ ((period_of new.queries assume ≡ period_of old.queries assume) × (n ≡ 0))
