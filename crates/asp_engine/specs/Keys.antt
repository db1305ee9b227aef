-- The parts of an engine together: the store's clauses under keys are the kept clauses of the theory and the log under numbers.
use Rattle.std.specs.Prelude.{◌≡◌, ℕ, ◌+◌, ◌<◌, ◌≤◌, Bool, List, length, Some, None, slice_index_or, IsFalse}
use Rattle.theory_form.specs.declared.literals.Lit.{Lit}
use Rattle.theory_form.specs.declared.literals.ClauseId.{ClauseId}
use Rattle.theory_form.specs.Theories.{TheoryView}
use Rattle.theory_model.specs.Whole.{AreOver, IsWhole}
use Rattle.loop_nogoods.specs.Marks.{marked}
use Rattle.asp_store.specs.Store.{State, clause_at}
use Rattle.proof_log.specs.declared.steps.Step.{Step}
use Rattle.proof_log.specs.Logs.{IsLog}
use Rattle.proof_log.specs.States.{StateView, clause_in, entry_of}
use Rattle.asp_engine.specs.declared.engine.Engine.{Engine}

-- the number under which the clause of a key is kept
abbrev pub number_of : List ClauseId → ℕ → ℕ
number_of numbers k = (slice_index_or numbers k (record { 0 = 0 })).0

-- the same theory, whatever is reserved
pub record IsSameTheory (s t : TheoryView) : Type 0 where
  pub variables : s.variables ≡ t.variables
  pub clauses : s.clauses ≡ t.clauses
  pub blocks : s.blocks ≡ t.blocks

-- The log of these steps is in this state over the theory, and the store has under its keys just the kept clauses of numbers up to
-- `taken`, each once, among which are all that steps added.
pub record HasTaken (taken : ℕ) (t : TheoryView) (steps : List Step) (s : State) (numbers : List ClauseId) (v : StateView) : Type 0 where
  pub theory : IsSameTheory v.theory t
  pub whole : IsWhole t
  pub log : IsLog v.theory steps v.added
  pub beyond : (id : ℕ) → length v.theory.clauses < id → clause_in v id ≡ None
  pub over : (id : ℕ) (c : List Lit) → clause_in v id ≡ Some c → AreOver (length t.variables) c
  pub keys : (k : ℕ) (c : List Lit) → clause_at s.clauses k ≡ Some c → clause_in v (number_of numbers k) ≡ Some c
  pub within : (k : ℕ) (c : List Lit) → clause_at s.clauses k ≡ Some c → number_of numbers k ≤ taken
  pub once : (k m : ℕ) (c d : List Lit) → clause_at s.clauses k ≡ Some c → clause_at s.clauses m ≡ Some d → number_of numbers k ≡ number_of numbers m → k ≡ m
  pub all : (id : ℕ) (c : List Lit) → id ≤ taken → clause_in v id ≡ Some c → (k : ℕ) × (clause_at s.clauses k ≡ Some c) × (number_of numbers k ≡ id)
  pub later : (id : ℕ) → taken < id → entry_of v.added id ≡ None

-- each of so many variables has a bit, and it is clear
abbrev pub AreUnmarked : ℕ → List Bool → Type 0
AreUnmarked n marks = (v : ℕ) → v < n → (v < length marks) × IsFalse (marked marks v)

-- The engine has taken all kept clauses, and has a place and a clear bit for each variable: it can search.
pub record IsIn (e : Engine) (v : StateView) : Type 0 where
  pub taken : HasTaken (length e.theory.clauses) e.theory e.log.steps e.parts.store e.parts.numbers.items v
  pub places : e.parts.store.places ≡ length e.theory.variables + 1
  pub marks : AreUnmarked (length e.theory.variables + 1) e.parts.marks

abbrev pub IsEngine : Engine → Type 0
IsEngine e = (v : StateView) × IsIn e v
