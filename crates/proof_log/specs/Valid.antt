-- Which steps are valid, and the cause for which one is not.
use Rattle.std.specs.Prelude.{◌≢◌, ℕ, ◌+◌, ◌∷◌, List, length, Option, Some, None, IsSome, IsSomeAnd}
use Rattle.std.specs.List.{All}
use Rattle.theory_form.specs.declared.literals.ClauseId.{ClauseId}
use Rattle.theory_form.specs.declared.literals.Lit.{Lit}
use Rattle.theory_form.specs.declared.literals.Var.{Var}
use Rattle.theory_form.specs.Hints.{FollowsByHints}
use Rattle.theory_form.specs.Theories.{TheoryView, row_of}
use Rattle.theory_model.specs.Loops.{AreAtomsOf}
use Rattle.loop_nogoods.specs.Sets.{has}
use Rattle.agg_nogoods.specs.Implied.{IsImplied}
use Rattle.proof_log.specs.Causes.{Asks, Passes}
use Rattle.proof_log.specs.States.{StateView, added_of, clause_in}
use Rattle.proof_log.specs.declared.causes.Cause.{Cause}
use Rattle.proof_log.specs.declared.causes.Cause.TheVariants as cause
use Rattle.proof_log.specs.declared.steps.Step.{Step}
use Rattle.proof_log.specs.declared.steps.Step.TheVariants.{Found, Passed, Improve, Dominate, Exclude, Learn, Loop, Sum, Erase, Optimal, Closed}

-- each hint is the number of a clause
abbrev pub AreClauses : (ℕ → Option (List Lit)) → List ClauseId → Type 0
AreClauses look hints = All (λ h. IsSome (look h.0)) hints

-- the atom and the others, none of which is the atom again, are atoms of one program
pub record AreOfProgram (t : TheoryView) (atom : Var) (others : List Var) : Type 0 where
  pub apart : All (λ v. v.0 ≢ atom.0) others
  pub program : (block : ℕ) × AreAtomsOf t block (has (atom ∷ others))

-- the guard is a sum variable, and its row implies the clause
abbrev pub IsSumClause : TheoryView → Var → List Lit → Type 0
IsSumClause t guard lits = IsSomeAnd (row_of t guard.0) (λ row. IsImplied row lits)

-- the conditions of a learned clause, where `look` gives the clause of a number
abbrev pub LearnAsks : (ℕ → Option (List Lit)) → ℕ → List Lit → List ClauseId → Option Cause → Type 0
LearnAsks look places lits hints = Asks cause.Clause (AreClauses look hints) (Asks cause.Hint (FollowsByHints look places lits hints) Passes)

-- The conditions of a step, in the order in which they are looked at. No step of another kind is judged yet: it is
-- neither valid, nor is there a cause.
abbrev pub Judged : StateView → Step → Option Cause → Type 0
Judged s (Found atoms) o = ⊥
Judged s (Passed set better) o = ⊥
Judged s Improve o = ⊥
Judged s (Dominate set) o = ⊥
Judged s (Exclude set) o = ⊥
Judged s (Learn lits hints) o = LearnAsks (clause_in s) (length s.theory.variables + 1) lits hints o
Judged s (Loop atom others) o = Asks cause.Loop (AreOfProgram s.theory atom others) Passes o
Judged s (Sum guard lits) o = Asks cause.Sum (IsSumClause s.theory guard lits) Passes o
Judged s (Erase clause) o = Asks cause.Clause (IsSome (added_of s clause.0)) Passes o
Judged s (Optimal set clause) o = ⊥
Judged s (Closed clause) o = ⊥

-- all conditions hold
abbrev pub IsValid : StateView → Step → Type 0
IsValid s step = Judged s step None

-- this is the cause of the first condition that fails
abbrev pub IsCause : StateView → Step → Cause → Type 0
IsCause s step first = Judged s step (Some first)
