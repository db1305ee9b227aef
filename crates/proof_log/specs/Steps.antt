-- What a contract sees of a log, and what is a condition of every call that takes a step of one.
use Rattle.std.specs.Prelude.{ℕ, ◌+◌, ◌<◌, ◌≤◌, List, length}
use Rattle.std.specs.List.{All}
use Rattle.ground_form.specs.declared.atoms.AtomId.{AtomId}
use Rattle.ground_form.specs.Sets.{IsAscending as AtomsAscend}
use Rattle.theory_form.specs.declared.literals.Lit.{Lit}
use Rattle.theory_form.specs.declared.literals.Var.{Var}
use Rattle.theory_form.specs.Literals.{IsAscending}
use Rattle.loop_nogoods.specs.Sets.{AreAscending}
use Rattle.agg_nogoods.specs.Implied.{IsConsistent}
use Rattle.proof_log.specs.declared.steps.Step.{Step}
use Rattle.proof_log.specs.declared.steps.Step.TheVariants.{Found, Passed, Improve, Dominate, Exclude, Learn, Loop, Sum, Erase, Optimal, Closed}

-- atoms in ascending order without repeats, and none of number 0
pub record AreAtoms (atoms : List AtomId) : Type 0 where
  pub numbers : All (λ a. 0 < a.0) atoms
  pub ascending : AtomsAscend atoms

-- the same of variables
pub record AreVariables (vars : List Var) : Type 0 where
  pub numbers : All (λ v. 0 < v.0) vars
  pub ascending : AreAscending vars

-- the same of literals, none of which stands beside its opposite
pub record AreLiterals (lits : List Lit) : Type 0 where
  pub numbers : All (λ l. 0 < l.var.0) lits
  pub ascending : IsAscending lits
  pub consistent : IsConsistent lits

-- no list of the step has 0 as a member; its lists of atoms and literals ascend without repeats; and no list of literals
-- holds a literal and its opposite
abbrev pub IsStep : Step → Type 0
IsStep (Found atoms) = AreAtoms atoms
IsStep (Passed set better) = Unit {0}
IsStep Improve = Unit {0}
IsStep (Dominate set) = Unit {0}
IsStep (Exclude set) = Unit {0}
IsStep (Learn lits hints) = AreLiterals lits × All (λ h. 0 < h.0) hints
IsStep (Loop atom others) = AreVariables others
IsStep (Sum guard lits) = AreLiterals lits
IsStep (Erase clause) = Unit {0}
IsStep (Optimal set clause) = Unit {0}
IsStep (Closed clause) = Unit {0}

-- the step is one of those that are judged: it adds a clause that follows from the theory, or erases one
abbrev pub IsJudged : Step → Type 0
IsJudged (Found atoms) = ⊥
IsJudged (Passed set better) = ⊥
IsJudged Improve = ⊥
IsJudged (Dominate set) = ⊥
IsJudged (Exclude set) = ⊥
IsJudged (Learn lits hints) = Unit {0}
IsJudged (Loop atom others) = Unit {0}
IsJudged (Sum guard lits) = Unit {0}
IsJudged (Erase clause) = Unit {0}
IsJudged (Optimal set clause) = ⊥
IsJudged (Closed clause) = ⊥

-- ---- logs

-- its steps, the oldest first, and for how many more there is room
pub record LogView : Type 0 where
  pub steps : List Step
  pub room : ℕ

-- what is true of every log: its steps are as those of calls, and there is the room
pub record HoldsLog (steps : List Step) (room capacity : ℕ) : Type 0 where
  pub are_steps : All IsStep steps
  pub within : length steps + room ≤ capacity
