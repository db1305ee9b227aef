-- What is asked of a theory, and of one that comes back.
use Rattle.std.specs.Prelude.{◌≡◌, ℕ, ◌<◌, ◌≤◌, ◌++◌, List, length, IsSome}
use Rattle.std.specs.List.{All}
use Rattle.ground_form.specs.Programs.{Parts}
use Rattle.ground_form.specs.Ranges.{IsInRange}
use Rattle.theory_form.specs.Theories.{Extends, TheoryView, clause_of}
use Rattle.theory_law.specs.Standing.{StandsOn}
use Rattle.proof_log.specs.declared.steps.Step.{Step}
use Rattle.proof_log.specs.Logs.{SkipsNoMore}
use Rattle.proof_log.specs.Steps.{IsJudged}

-- The theory begins with that of a program, names its own variables alone, and its clauses define its bodies.
abbrev pub CanSearch : TheoryView → Type 0
CanSearch t = (g : Parts) × IsInRange g × StandsOn g t

-- no number was skipped
abbrev pub SkipsNone : TheoryView → Type 0
SkipsNone t = (k : ℕ) → 0 < k → k ≤ length t.clauses → IsSome (clause_of t k)

-- A theory and a log that a solver lent come back with more: variables, clauses and programs behind those that were there, and steps
-- that neither add a clause nor erase one.
pub record ComesBack (lent : TheoryView) (lent_steps : List Step) (t : TheoryView) (steps : List Step) : Type 0 where
  pub extends : Extends lent t
  pub can_search : CanSearch t
  pub skips : SkipsNoMore lent t
  pub more : List Step
  pub steps_are : steps ≡ lent_steps ++ more
  pub others : All (λ step. IsJudged step → ⊥) more
