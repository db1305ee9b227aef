-- Loop clauses of atoms of a set of atoms.
use Rattle.std.specs.Prelude.{ℕ, Bool, List, IsTrue}
use Rattle.theory_form.specs.declared.literals.Lit.{Lit}
use Rattle.theory_form.specs.Theories.{TheoryView}
use Rattle.theory_model.specs.Loops.{AreAtomsOf, IsLoopClause}

-- the set is one of atoms of one program, v is one of them, and c is their loop clause
pub record IsLoopNogood (t : TheoryView) (u : ℕ → Bool) (v : ℕ) (c : List Lit) : Type 0 where
  pub member : IsTrue (u v)
  pub program : (block : ℕ) × AreAtomsOf t block u
  pub clause : IsLoopClause t u v c
