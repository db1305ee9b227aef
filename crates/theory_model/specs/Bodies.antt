-- What the clauses of a theory say of its bodies (Clark 1978).
use Rattle.std.specs.Prelude.{◌≡◌, ℕ, Bool, List, Some, IsTrue}
use Rattle.theory_form.specs.declared.literals.Lit.{Lit}
use Rattle.theory_form.specs.declared.rows.BodyRow.{BodyRow}
use Rattle.theory_form.specs.Theories.{TheoryView, body_of, clause_of}
use Rattle.theory_model.specs.Truth.{clause_true, conjunction_true}

-- every clause of the theory is true
abbrev pub AreClausesTrue : TheoryView → (ℕ → Bool) → Type 0
AreClausesTrue t f = (id : ℕ) (c : List Lit) → clause_of t id ≡ Some c → IsTrue (clause_true f c)

-- The clauses define the bodies: wherever all clauses are true, the variable of a body is true exactly where all literals of
-- the body are.
abbrev pub DefinesBodies : TheoryView → Type 0
DefinesBodies t = (f : ℕ → Bool) → AreClausesTrue t f → (b : ℕ) (row : BodyRow) → body_of t b ≡ Some row → f b ≡ conjunction_true f row.lits

-- each body of the second theory is one of the first
abbrev pub HasNoMoreBodies : TheoryView → TheoryView → Type 0
HasNoMoreBodies s t = (b : ℕ) (row : BodyRow) → body_of t b ≡ Some row → body_of s b ≡ Some row
