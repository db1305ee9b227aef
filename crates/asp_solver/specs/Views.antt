-- What a contract sees of a `Solver`, and of what it keeps while its theory is lent.
use Rattle.std.specs.Prelude.{◌≡◌, ◌==◌, ◌&&◌, not, ℕ, Bool, false, List, [], ◌∷◌, Option, Some, None, if◌then◌else◌}
use Rattle.std.specs.List.{AllPairs, list_any}
use lib.Pointwise.{pointwise}
use Rattle.theory_form.specs.declared.literals.Lit.{Lit}
use Rattle.theory_form.specs.declared.literals.ClauseId.{ClauseId}
use Rattle.theory_form.specs.Order.{lit_eq}
use Rattle.theory_form.specs.Theories.{TheoryView}
use Rattle.proof_log.specs.declared.steps.Step.{Step}
use Rattle.proof_log.specs.Logs.{IsLog}
use Rattle.proof_log.specs.States.{StateView}
use Rattle.proof_log.specs.Steps.{LogView}
use Rattle.asp_store.specs.Store.{assigned}
use Rattle.asp_engine.specs.declared.engine.Engine.{Engine}
use Rattle.asp_engine.specs.declared.periods.Period.{Period}
use Rattle.asp_engine.specs.declared.periods.Query.{Query}
use Rattle.asp_engine.specs.Keys.{IsSameTheory}

-- its theory and log; the open queries; and the values of the variables in the model behind the last answer, none where that was
-- not `Found`
pub record SolverView : Type 0 where
  pub theory : TheoryView
  pub log : LogView
  pub queries : List Query
  pub found : List (Option Bool)

-- The state of a valid log of these steps over the theory. There is one, but for what it knows of an `#optimize` and of working tables,
-- and for what is reserved.
pub record IsStateOf (t : TheoryView) (steps : List Step) (v : StateView) : Type 0 where
  pub theory : IsSameTheory v.theory t
  pub log : IsLog t steps v.added

-- the present period of the open query with these assumptions
abbrev pub period_of : List Query → List Lit → Option Period
period_of [] assume = None
period_of (q ∷ queries) assume = if pointwise lit_eq q.assume assume then Some q.period else period_of queries assume

-- this period, or the first one
abbrev pub period_or_first : Option Period → Period
period_or_first None = record { number = 1; learned = [] }
period_or_first (Some p) = p

-- the period in which a query with these assumptions goes on: its present one, or the first if it is not open
abbrev pub next_period : List Query → List Lit → Period
next_period queries assume = period_or_first (period_of queries assume)

-- the open queries without the one that has these assumptions
abbrev pub without : List Query → List Lit → List Query
without [] assume = []
without (q ∷ queries) assume = if pointwise lit_eq q.assume assume then queries else q ∷ without queries assume

-- no two open queries have the same assumptions
abbrev pub AreApart : List Query → Type 0
AreApart queries = AllPairs (λ (q r : Query). pointwise lit_eq q.assume r.assume ≡ false) queries

-- what a contract sees of a solver with these parts
abbrev pub view_of : Engine → List Query → Bool → SolverView
view_of e queries found = record {
  theory = e.theory;
  log = e.log;
  queries = queries;
  found = if found then assigned e.parts.store else [];
}

-- an open query with other assumptions learned the clause of this number in its present period
abbrev pub held_by : List Query → List Lit → ℕ → Bool
held_by queries assume k = list_any (λ q. not (pointwise lit_eq q.assume assume) && list_any (λ (m : ClauseId). m.0 == k) q.period.learned) queries
