-- What a query does to the log: which steps it makes, and what they lead to.
use Rattle.std.specs.Prelude.{◌≡◌, ℕ, ◌+◌, ◌≤◌, ◌++◌, ◌==◌, Bool, true, false, List, [], ◌∷◌, length, IsFalse, IsSomeAnd}
use Rattle.proof_log.specs.declared.steps.Step.{Step}
use Rattle.proof_log.specs.declared.steps.Step.TheVariants.{Found, Passed, Improve, Dominate, Exclude, Learn, Loop, Sum, Erase, Optimal, Closed}
use Rattle.proof_log.specs.After.{IsAfter}
use Rattle.proof_log.specs.Logs.{IsNewStep, IsStepOver}
use Rattle.proof_log.specs.States.{StateView, clause_in}
use Rattle.proof_log.specs.Steps.{IsStep}
use Rattle.proof_log.specs.Valid.{IsValid}
use Rattle.asp_engine.specs.declared.engine.Engine.{Engine}
use Rattle.std.specs.List.{list_any}
use Rattle.theory_form.specs.declared.literals.ClauseId.{ClauseId}
use Rattle.asp_engine.specs.declared.periods.Period.{Period}
use Rattle.asp_engine.specs.declared.periods.Query.{Query}
use Rattle.asp_engine.specs.Keys.{IsIn}
use Rattle.asp_engine.specs.Periods.{after_learning, ends}

-- another open query learned the clause of this number in its present period
abbrev pub held_by : List Query → ℕ → Bool
held_by others k = list_any (λ q. list_any (λ (m : ClauseId). m.0 == k) q.period.learned) others

-- a moment of a query: the state of the log, its present period, and whether the last one ended just now
pub record Moment : Type 0 where
  pub state : StateView
  pub period : Period
  pub ended : Bool

-- the period goes on
abbrev pub GoesOn : Moment → Moment → Type 0
GoesOn m n = (n.period ≡ m.period) × (n.ended ≡ false)

-- Which steps a query makes, and when; `held` tells the numbers of the clauses that other open queries learned in their
-- present periods. It learns, and adds clauses of loops and sums. It erases only where a period of its own has just ended, no
-- clause of fewer than two literals and none that is held.
abbrev pub Does : ℕ → (ℕ → Bool) → Moment → Step → Moment → Type 0
Does span held m (Found atoms) n = ⊥
Does span held m (Passed set better) n = ⊥
Does span held m Improve n = ⊥
Does span held m (Dominate set) n = ⊥
Does span held m (Exclude set) n = ⊥
Does span held m (Learn lits hints) n =
    (n.period ≡ after_learning span m.period (record { 0 = length m.state.theory.clauses + 1 })) × (n.ended ≡ ends span m.period)
Does span held m (Loop atom others) n = GoesOn m n
Does span held m (Sum guard lits) n = GoesOn m n
Does span held m (Erase clause) n =
    (m.ended ≡ true) × (n.period ≡ m.period) × (n.ended ≡ true)
    × IsSomeAnd (clause_in m.state clause.0) (λ c. 2 ≤ length c) × IsFalse (held clause.0)
Does span held m (Optimal set clause) n = ⊥
Does span held m (Closed clause) n = ⊥

-- one step of a query: it is valid where it is made, what it lists is over the theory's variables, and what it learns is new
pub record IsMove (span : ℕ) (held : ℕ → Bool) (m : Moment) (step : Step) (n : Moment) : Type 0 where
  pub step_is : IsStep step
  pub listed : IsStepOver (length m.state.theory.variables) step
  pub valid : IsValid m.state step
  pub after : IsAfter m.state step n.state
  pub is_new : IsNewStep m.state step
  pub does : Does span held m step n

-- the steps, in this order, lead from one moment of a query to another
abbrev pub Leads : ℕ → (ℕ → Bool) → Moment → List Step → Moment → Type 0
Leads span held m [] n = m ≡ n
Leads span held m (step ∷ more) n = (mid : Moment) × IsMove span held m step mid × Leads span held mid more n

-- how many of the steps learn
abbrev pub learns : Step → ℕ
learns (Found atoms) = 0
learns (Passed set better) = 0
learns Improve = 0
learns (Dominate set) = 0
learns (Exclude set) = 0
learns (Learn lits hints) = 1
learns (Loop atom others) = 0
learns (Sum guard lits) = 0
learns (Erase clause) = 0
learns (Optimal set clause) = 0
learns (Closed clause) = 0

abbrev pub learned : List Step → ℕ
learned [] = 0
learned (step ∷ more) = learns step + learned more

-- a moment at which no period ended
abbrev pub at_moment : StateView → Period → Moment
at_moment v p = record { state = v; period = p; ended = false }

-- What became of an engine whose log was in a state, and of the period of its query: steps were made, so many of them learned.
pub record Makes (held : ℕ → Bool) (old new : Engine) (p q : Period) (n : ℕ) (v : StateView) : Type 0 where
  pub steps : List Step
  pub end : Moment
  pub leads : Leads old.parts.span held (at_moment v p) steps end
  pub period : end.period ≡ q
  pub log : new.log.steps ≡ old.log.steps ++ steps
  pub span : new.parts.span ≡ old.parts.span
  pub marks : new.parts.marks ≡ old.parts.marks
  pub is_in : IsIn new end.state
  pub count : learned steps ≡ n

abbrev pub Went : (ℕ → Bool) → Engine → Engine → Period → Period → ℕ → Type 0
Went held old new p q n = (v : StateView) → IsIn old v → Makes held old new p q n v

-- the same, and whether its last step ended the period
abbrev pub WentTo : (ℕ → Bool) → Engine → Engine → Period → Period → ℕ → Bool → Type 0
WentTo held old new p q n ended = (v : StateView) → IsIn old v → (m : Makes held old new p q n v) × (m.end.ended ≡ ended)

-- a moment of this period
abbrev pub moment : StateView → Period → Bool → Moment
moment v p ended = record { state = v; period = p; ended = ended }

-- What became of an engine whose log was in a state at a moment that may be the end of a period: steps were made that a query may
-- make there, none of which learned.
pub record Forgets (held : ℕ → Bool) (ended : Bool) (old new : Engine) (v : StateView) : Type 0 where
  pub steps : List Step
  pub state : StateView
  pub leads : (span : ℕ) (p : Period) → Leads span held (moment v p ended) steps (moment state p ended)
  pub log : new.log.steps ≡ old.log.steps ++ steps
  pub span : new.parts.span ≡ old.parts.span
  pub marks : new.parts.marks ≡ old.parts.marks
  pub is_in : IsIn new state
  pub count : learned steps ≡ 0
