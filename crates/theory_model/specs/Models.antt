-- The models of a theory.
use Rattle.std.specs.Prelude.{◌≡◌, ℕ, Bool, List, Some, IsTrue}
use Rattle.theory_form.specs.declared.literals.Lit.{Lit}
use Rattle.theory_form.specs.declared.rows.SumRow.{SumRow}
use Rattle.theory_form.specs.Theories.{TheoryView, clause_of, row_of}
use Rattle.theory_model.specs.Truth.{clause_true, IsRowTrue}
use Rattle.theory_model.specs.Loops.{AreAtomsOf, IsLoopTrue}

-- Every clause is true, every sum variable is true exactly where its sum reaches its bound, and so is every loop clause:
-- for every set of atoms of one program and each atom of it, the atom is false or an external support of the set is true.
pub record IsModel (t : TheoryView) (f : ℕ → Bool) : Type 0 where
  pub clauses : (id : ℕ) (c : List Lit) → clause_of t id ≡ Some c → IsTrue (clause_true f c)
  pub sums : (v : ℕ) (row : SumRow) → row_of t v ≡ Some row → IsRowTrue f row
  pub loops : (block : ℕ) (u : ℕ → Bool) → AreAtomsOf t block u → (v : ℕ) → IsTrue (u v) → IsLoopTrue t f u v
