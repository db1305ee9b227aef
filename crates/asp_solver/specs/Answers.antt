-- What the answers of a solver say.
use Rattle.std.specs.Prelude.{◌≡◌, ℕ, ◌+◌, Bool, List, length, Some, IsTrue, IsSomeAnd}
use Rattle.std.specs.List.{All}
use Rattle.ground_form.specs.declared.atoms.AtomId.{AtomId}
use Rattle.ground_form.specs.AnswerSets.{IsAnswerSet}
use Rattle.ground_form.specs.Programs.{Parts}
use Rattle.ground_form.specs.Ranges.{IsInRange}
use Rattle.ground_form.specs.Sets.{has, IsAscending as AtomsAscend}
use Rattle.theory_form.specs.declared.literals.Lit.{Lit}
use Rattle.theory_form.specs.Literals.{IsAscending}
use Rattle.theory_law.specs.Cuts.{cut}
use Rattle.theory_law.specs.Standing.{StandsOn}
use Rattle.theory_model.specs.Models.{IsModel}
use Rattle.theory_model.specs.Truth.{literal_true}
use Rattle.proof_log.specs.Logs.{IsNegated}
use Rattle.proof_log.specs.States.{StateView, clause_in}
use Rattle.search_law.specs.Closed.{IsTotal, truths}
use Rattle.asp_solver.specs.declared.answers.Answer.{Answer}
use Rattle.asp_solver.specs.declared.answers.Answer.TheVariants as answer
use Rattle.asp_solver.specs.declared.answers.Turn.{Turn}
use Rattle.asp_solver.specs.declared.answers.Turn.TheVariants.{Found, Refuted, Spent, Again, Memory}
use Rattle.asp_solver.specs.Views.{SolverView, IsStateOf}

-- The values of the variables are a model of the theory in which every assumption is true, and the set has the model's atoms of the base:
-- it is an answer set of the base.
pub record IsFound (s : SolverView) (assume : List Lit) (x : List AtomId) : Type 0 where
  pub values : length s.found ≡ length s.theory.variables + 1
  pub total : IsTotal s.found
  pub model : IsModel s.theory (truths s.found)
  pub assumed : All (λ l. IsTrue (literal_true (truths s.found) l)) assume
  pub ascending : AtomsAscend x
  pub atoms : (g : Parts) → StandsOn g s.theory → (a : ℕ) → has x a ≡ cut 0 g (truths s.found) a
  pub answer_set : (g : Parts) → IsInRange g → StandsOn g s.theory → IsAnswerSet g (has x)

-- the kept clause of this number holds negated assumptions alone
abbrev pub IsRefuted : SolverView → List Lit → ℕ → Type 0
IsRefuted s assume k = (v : StateView) → IsStateOf s.theory s.log.steps v → IsSomeAnd (clause_in v k) (λ c. IsAscending c × IsNegated assume c)

-- no kept clause does
abbrev pub NoneRefuted : SolverView → List Lit → Type 0
NoneRefuted s assume = (v : StateView) → IsStateOf s.theory s.log.steps v → (k : ℕ) (c : List Lit) → clause_in v k ≡ Some c → IsNegated assume c → ⊥

-- the answer of a query as that of a turn
abbrev pub as_turn : Answer → Turn
as_turn (answer.Found x) = Found x
as_turn (answer.Refuted k) = Refuted k
as_turn answer.Spent = Spent
as_turn answer.Memory = Memory

-- an answer of a turn, with what is left of the budget and of the quota
abbrev pub ShowsTurn : SolverView → List Lit → ℕ → ℕ → Turn → Type 0
ShowsTurn s assume left more (Found x) = IsFound s assume x
ShowsTurn s assume left more (Refuted k) = IsRefuted s assume k.0
ShowsTurn s assume left more Spent = (left ≡ 0) × NoneRefuted s assume
ShowsTurn s assume left more Again = (more ≡ 0) × NoneRefuted s assume
ShowsTurn s assume left more Memory = Unit {0}

-- an answer of a query, with what is left of the budget
abbrev pub ShowsAnswer : SolverView → List Lit → ℕ → Answer → Type 0
ShowsAnswer s assume left (answer.Found x) = IsFound s assume x
ShowsAnswer s assume left (answer.Refuted k) = IsRefuted s assume k.0
ShowsAnswer s assume left answer.Spent = (left ≡ 0) × NoneRefuted s assume
ShowsAnswer s assume left answer.Memory = Unit {0}

-- it is one of those that come where no clause may be learned
abbrev pub IsRefutedOrMemory : Turn → Type 0
IsRefutedOrMemory (Found x) = ⊥
IsRefutedOrMemory (Refuted k) = Unit {0}
IsRefutedOrMemory Spent = ⊥
IsRefutedOrMemory Again = ⊥
IsRefutedOrMemory Memory = Unit {0}

abbrev pub IsRefutedSpentOrMemory : Turn → Type 0
IsRefutedSpentOrMemory (Found x) = ⊥
IsRefutedSpentOrMemory (Refuted k) = Unit {0}
IsRefutedSpentOrMemory Spent = Unit {0}
IsRefutedSpentOrMemory Again = ⊥
IsRefutedSpentOrMemory Memory = Unit {0}
