-- Unfounded sets (Van Gelder, Ross and Schlipf 1991), read on a theory, under an assignment that may be partial.
use Rattle.std.specs.Prelude.{◌≢◌, ℕ, Bool, false, List, Option, Some, IsTrue}
use Rattle.theory_form.specs.declared.literals.Lit.{Lit}
use Rattle.theory_form.specs.Theories.{TheoryView}
use Rattle.theory_form.specs.Truth.{value_of, IsFalseIn}
use Rattle.theory_model.specs.Loops.{AreAtomsOf, IsExternal}

-- A set of atoms of the program that is not empty. None of them is false, and all external supports of the set are.
pub record IsUnfounded (t : TheoryView) (block : ℕ) (a : List (Option Bool)) (u : ℕ → Bool) : Type 0 where
  pub some : (v : ℕ) × IsTrue (u v)
  pub atoms : AreAtomsOf t block u
  pub not_false : (v : ℕ) → IsTrue (u v) → value_of a v ≢ Some false
  pub supports : (l : Lit) → IsExternal t u l → IsFalseIn a l
