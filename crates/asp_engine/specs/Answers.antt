-- What a query answers, and what a round of it does.
use Rattle.std.specs.Prelude.{◌≡◌, ℕ, ◌+◌, ◌-◌, ◌*◌, ◌^◌, ◌<◌, Bool, List, length, Option, Some, None}
use Rattle.theory_form.specs.declared.literals.Lit.{Lit}
use Rattle.theory_form.specs.Literals.{IsAscending}
use Rattle.asp_store.specs.Store.{NoneRefuting, assigned}
use Rattle.proof_log.specs.Logs.{IsNegated}
use Rattle.proof_log.specs.States.{StateView, clause_in}
use Rattle.search_law.specs.Closed.{IsClosed}
use Rattle.search_law.specs.Counts.{model_count}
use Rattle.asp_engine.specs.declared.engine.Engine.{Engine}
use Rattle.asp_engine.specs.declared.periods.Period.{Period}
use Rattle.asp_engine.specs.declared.rounds.Ending.{Ending}
use Rattle.asp_engine.specs.declared.rounds.Ending.TheVariants.{Full, Refuted, Spent, Again, Memory}
use Rattle.asp_engine.specs.declared.rounds.Round.{Round}
use Rattle.asp_engine.specs.declared.rounds.Round.TheVariants.{Over, On}
use Rattle.asp_engine.specs.declared.descent.Stop.TheVariants as stop
use Rattle.asp_engine.specs.Keys.{IsEngine, IsIn}
use Rattle.asp_engine.specs.Moves.{Went}
use Rattle.asp_engine.specs.Search.{AreAssumptions, ShowsStop, Stands}

-- The clause of this number, a kept one, holds negated assumptions alone.
pub record IsRefuted (e : Engine) (assume : List Lit) (id : ℕ) : Type 0 where
  pub clause : List Lit
  pub kept : (v : StateView) → IsIn e v → clause_in v id ≡ Some clause
  pub ascending : IsAscending clause
  pub negated : IsNegated assume clause

-- how a search ends, with what is left of the budget and of the quota
abbrev pub ShowsEnding : Engine → List Lit → ℕ → ℕ → Ending → Type 0
ShowsEnding e assume left more Full = ShowsStop e.parts.store assume stop.Full × IsClosed e.theory (assigned e.parts.store)
ShowsEnding e assume left more (Refuted id) = IsRefuted e assume id.0
ShowsEnding e assume left more Spent = (left ≡ 0) × NoneRefuting e.parts.store.clauses assume
ShowsEnding e assume left more Again = (more ≡ 0) × NoneRefuting e.parts.store.clauses assume
ShowsEnding e assume left more Memory = Unit {0}

-- how many more clauses may be learned in a call that has learned some
abbrev pub left_of : Option ℕ → ℕ → ℕ
left_of None learned = 1
left_of (Some quota) learned = quota - learned

-- it is one of those that come where no clause may be learned
abbrev pub IsRefutedOrMemory : Ending → Type 0
IsRefutedOrMemory Full = ⊥
IsRefutedOrMemory (Refuted id) = Unit {0}
IsRefutedOrMemory Spent = ⊥
IsRefutedOrMemory Again = ⊥
IsRefutedOrMemory Memory = Unit {0}

abbrev pub IsRefutedSpentOrMemory : Ending → Type 0
IsRefutedSpentOrMemory Full = ⊥
IsRefutedSpentOrMemory (Refuted id) = Unit {0}
IsRefutedSpentOrMemory Spent = Unit {0}
IsRefutedSpentOrMemory Again = ⊥
IsRefutedSpentOrMemory Memory = Unit {0}

-- what holds of an engine in the course of a query
pub record IsOpen (e : Engine) (assume : List Lit) : Type 0 where
  pub engine : IsEngine e
  pub assumptions : AreAssumptions (length e.theory.variables) assume
  pub stands : Stands e.parts.store.clauses e.parts.store.places assume e.parts.store.entries
  pub none : NoneRefuting e.parts.store.clauses assume

-- so many clauses of loops and sums may be added after each learned clause while the assignment is not total
abbrev pub eager_most : ℕ
eager_most = 1099511627776

-- What falls in each round: what is left of the budget; or how many clauses may still be added while the assignment is not
-- total; or how many total assignments make every clause true.
abbrev pub weight : Engine → ℕ → ℕ
weight e left = left * (2 ^ e.parts.store.places + 1 + eager_most) + (model_count e.parts.store.clauses e.parts.store.places + e.parts.eager)

-- what a round does
abbrev pub ShowsRound : Engine → Engine → List Lit → ℕ → ℕ → Round → Type 0
ShowsRound old new assume left_old left_new (Over ending) = ShowsEnding new assume left_new 1 ending
ShowsRound old new assume left_old left_new On = IsOpen new assume × (weight new left_new < weight old left_old)

-- each learned clause took one of the budget
abbrev pub Spends : (ℕ → Bool) → Engine → Engine → Period → Period → ℕ → ℕ → Type 0
Spends held old new p q left_old left_new = (n : ℕ) × Went held old new p q n × (n + left_new ≡ left_old)
