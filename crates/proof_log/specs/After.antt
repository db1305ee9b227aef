-- The state after a step.
use Rattle.std.specs.Prelude.{◌≡◌, ◌∷◌, List}
use Rattle.theory_form.specs.declared.literals.Lit.{Lit}
use Rattle.theory_model.specs.Loops.{IsLoopClause}
use Rattle.loop_nogoods.specs.Sets.{has}
use Rattle.proof_log.specs.States.{StateView, with_clause, without_clause}
use Rattle.proof_log.specs.declared.steps.Step.{Step}
use Rattle.proof_log.specs.declared.steps.Step.TheVariants.{Found, Passed, Improve, Dominate, Exclude, Learn, Loop, Sum, Erase, Optimal, Closed}

-- The state after a step that is valid. The clause of a loop step is the loop clause of its atom and the set of all its
-- atoms. No step of another kind is judged yet.
abbrev pub IsAfter : StateView → Step → StateView → Type 0
IsAfter s (Found atoms) after = ⊥
IsAfter s (Passed set better) after = ⊥
IsAfter s Improve after = ⊥
IsAfter s (Dominate set) after = ⊥
IsAfter s (Exclude set) after = ⊥
IsAfter s (Learn lits hints) after = after ≡ with_clause s lits
IsAfter s (Loop atom others) after = (c : List Lit) × IsLoopClause s.theory (has (atom ∷ others)) atom.0 c × (after ≡ with_clause s c)
IsAfter s (Sum guard lits) after = after ≡ with_clause s lits
IsAfter s (Erase clause) after = after ≡ without_clause s clause.0
IsAfter s (Optimal set clause) after = ⊥
IsAfter s (Closed clause) after = ⊥
