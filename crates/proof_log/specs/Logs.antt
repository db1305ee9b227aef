-- The valid logs of a theory, and the clauses that are kept in them.
use Rattle.std.specs.Prelude.{◌≡◌, ℕ, ◌-◌, ◌+◌, ◌<◌, ◌≤◌, List, [], ◌∷◌, length, reverse, Option, Some, None, IsSome, if◌then◌else◌, nat_lt}
use Rattle.std.specs.List.{All, Contains}
use Rattle.theory_form.specs.declared.literals.Lit.{Lit}
use Rattle.theory_form.specs.Literals.{opposite}
use Rattle.theory_form.specs.Theories.{TheoryView, clause_of}
use Rattle.theory_model.specs.Loops.{IsLoopClause}
use Rattle.theory_model.specs.Whole.{AreOver}
use Rattle.loop_nogoods.specs.Sets.{has}
use Rattle.proof_log.specs.declared.steps.Step.{Step}
use Rattle.proof_log.specs.declared.steps.Step.TheVariants.{Found, Passed, Improve, Dominate, Exclude, Learn, Loop, Sum, Erase, Optimal, Closed}
use Rattle.proof_log.specs.States.{StateView, clause_among, clause_in, entry_of, put, taken}
use Rattle.proof_log.specs.Valid.{AreOfProgram, IsSumClause, LearnAsks}

-- the clauses of numbers below n
abbrev pub below : ℕ → (ℕ → Option (List Lit)) → ℕ → Option (List Lit)
below n look id = if nat_lt id n then look id else None

-- the first number behind another that the theory skipped
pub record IsNextSkipped (t : TheoryView) (last n : ℕ) : Type 0 where
  pub behind : last < n
  pub within : n ≤ length t.clauses
  pub skipped : clause_of t n ≡ None
  pub between : (k : ℕ) → last < k → k < n → IsSome (clause_of t k)

-- the clause takes the next number that the theory skipped
abbrev pub Takes : TheoryView → List (Option (List Lit)) → ℕ → List Lit → List (Option (List Lit)) → ℕ → Type 0
Takes t old last c new n = IsNextSkipped t last n × (new ≡ put old (n - 1) c)

-- the step changes no clause
abbrev pub Keeps : List (Option (List Lit)) → ℕ → List (Option (List Lit)) → ℕ → Type 0
Keeps old last new n = (new ≡ old) × (n ≡ last)

-- What a step does, over the theory, to the clauses that are added and kept and to the last number that a step took. The
-- step is valid with the rows and supports of the theory and with the kept clauses; where it learns, with those of smaller
-- numbers. What it lists is over the theory's variables.
abbrev pub LogStep : TheoryView → List (Option (List Lit)) → ℕ → Step → List (Option (List Lit)) → ℕ → Type 0
LogStep t old last (Found atoms) new n = Keeps old last new n
LogStep t old last (Passed set better) new n = Keeps old last new n
LogStep t old last Improve new n = Keeps old last new n
LogStep t old last (Dominate set) new n = Keeps old last new n
LogStep t old last (Exclude set) new n = Keeps old last new n
LogStep t old last (Learn lits hints) new n =
    Takes t old last lits new n × AreOver (length t.variables) lits
    × LearnAsks (below n (clause_among t old)) (length t.variables + 1) lits hints None
LogStep t old last (Loop atom others) new n =
    AreOfProgram t atom others × ((c : List Lit) × IsLoopClause t (has (atom ∷ others)) atom.0 c × Takes t old last c new n)
LogStep t old last (Sum guard lits) new n = Takes t old last lits new n × AreOver (length t.variables) lits × IsSumClause t guard lits
LogStep t old last (Erase clause) new n = IsSome (entry_of old clause.0) × (new ≡ taken old clause.0) × (n ≡ last)
LogStep t old last (Optimal set clause) new n = Keeps old last new n
LogStep t old last (Closed clause) new n = Keeps old last new n

-- the steps, the newest first, lead to these added clauses, and the last number that one of them took is this
abbrev pub IsLogged : TheoryView → List Step → List (Option (List Lit)) → ℕ → Type 0
IsLogged t [] added last = Keeps [] 0 added last
IsLogged t (step ∷ older) added last =
    (before : List (Option (List Lit))) × (n : ℕ) × IsLogged t older before n × LogStep t before n step added last

-- The log of these steps is valid over the theory: the numbers that the theory skipped are, in order, those of the steps that
-- add a clause, and each step is valid. The added clauses that are kept are these, by number.
pub record IsLog (t : TheoryView) (steps : List Step) (added : List (Option (List Lit))) : Type 0 where
  pub last : ℕ
  pub logged : IsLogged t (reverse steps) added last
  pub within : last ≤ length t.clauses
  pub none_behind : (k : ℕ) → last < k → k ≤ length t.clauses → IsSome (clause_of t k)

-- each number behind the clauses of the first theory is that of a clause of the second
abbrev pub SkipsNoMore : TheoryView → TheoryView → Type 0
SkipsNoMore s t = (k : ℕ) → length s.clauses < k → k ≤ length t.clauses → IsSome (clause_of t k)

-- what the step lists is over the first n variables
abbrev pub IsStepOver : ℕ → Step → Type 0
IsStepOver n (Found atoms) = Unit {0}
IsStepOver n (Passed set better) = Unit {0}
IsStepOver n Improve = Unit {0}
IsStepOver n (Dominate set) = Unit {0}
IsStepOver n (Exclude set) = Unit {0}
IsStepOver n (Learn lits hints) = AreOver n lits
IsStepOver n (Loop atom others) = Unit {0}
IsStepOver n (Sum guard lits) = AreOver n lits
IsStepOver n (Erase clause) = Unit {0}
IsStepOver n (Optimal set clause) = Unit {0}
IsStepOver n (Closed clause) = Unit {0}

-- ---- words for clauses

-- each literal of the first clause is one of the second
abbrev pub IsPart : List Lit → List Lit → Type 0
IsPart d c = All (λ l. Contains c l) d

-- no clause that is kept is a part of this one
abbrev pub IsNew : (ℕ → Option (List Lit)) → List Lit → Type 0
IsNew look c = (id : ℕ) (d : List Lit) → look id ≡ Some d → IsPart d c → ⊥

-- the clause that the step learns, if it does, is new
abbrev pub IsNewStep : StateView → Step → Type 0
IsNewStep s (Found atoms) = Unit {0}
IsNewStep s (Passed set better) = Unit {0}
IsNewStep s Improve = Unit {0}
IsNewStep s (Dominate set) = Unit {0}
IsNewStep s (Exclude set) = Unit {0}
IsNewStep s (Learn lits hints) = IsNew (clause_in s) lits
IsNewStep s (Loop atom others) = Unit {0}
IsNewStep s (Sum guard lits) = Unit {0}
IsNewStep s (Erase clause) = Unit {0}
IsNewStep s (Optimal set clause) = Unit {0}
IsNewStep s (Closed clause) = Unit {0}

-- the clause holds negated assumptions alone
abbrev pub IsNegated : List Lit → List Lit → Type 0
IsNegated assume c = All (λ l. Contains assume (opposite l)) c
