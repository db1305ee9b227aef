-- External supports and loop formulas (Lin and Zhao 2004). A set of atoms is given by its test.
use Rattle.std.specs.Prelude.{◌≡◌, ℕ, Bool, false, ◌&&◌, List, Option, Some, None, IsTrue, IsFalse, ◌↔◌, ◌⊎◌, IsSomeAnd}
use Rattle.std.specs.List.{list_any, Contains}
use Rattle.theory_form.specs.declared.literals.Lit.{Lit}
use Rattle.theory_form.specs.declared.rows.BodyRow.{BodyRow}
use Rattle.theory_form.specs.Literals.{IsAscending}
use Rattle.theory_form.specs.Theories.{TheoryView, body_of, block_of, supports_of}
use Rattle.theory_model.specs.Truth.{literal_true}

-- a literal of the set's own: the positive literal of one of its members
abbrev pub is_positive_in : (ℕ → Bool) → Lit → Bool
is_positive_in u l = l.yes && u l.var.0

-- a body with a positive literal over a member of the set
abbrev pub rests_on : (ℕ → Bool) → Option BodyRow → Bool
rests_on u None = false
rests_on u (Some row) = list_any (is_positive_in u) row.lits

-- A support rests on the set itself where it is the positive literal of a body that has a positive literal over one of
-- the set's members. Every other support is external: the literals that join an atom to what stands outside its program,
-- and the bodies that look at the set through negation or sums alone.
abbrev pub is_internal : TheoryView → (ℕ → Bool) → Lit → Bool
is_internal t u l = l.yes && rests_on u (body_of t l.var.0)

-- it is a support of a member of the set, and external
abbrev pub IsExternal : TheoryView → (ℕ → Bool) → Lit → Type 0
IsExternal t u l = (v : ℕ) × IsTrue (u v) × IsSomeAnd (supports_of t v) (λ supports. Contains supports l) × IsFalse (is_internal t u l)

-- every member of the set is an atom of this program
abbrev pub AreAtomsOf : TheoryView → ℕ → (ℕ → Bool) → Type 0
AreAtomsOf t block u = (v : ℕ) → IsTrue (u v) → block_of t v ≡ Some block

-- where the atom is true, an external support of the set is true
abbrev pub IsLoopTrue : TheoryView → (ℕ → Bool) → (ℕ → Bool) → ℕ → Type 0
IsLoopTrue t f u v = IsTrue (f v) → (l : Lit) × IsExternal t u l × IsTrue (literal_true f l)

-- The loop clause of an atom of a set: that the atom is false, or an external support of the set is true.
pub record IsLoopClause (t : TheoryView) (u : ℕ → Bool) (v : ℕ) (c : List Lit) : Type 0 where
  pub ascending : IsAscending c
  pub literals : (l : Lit) → Contains c l ↔ ((l ≡ record { var = record { 0 = v }; yes = false }) ⊎ IsExternal t u l)
