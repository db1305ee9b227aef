-- Tight programs (Fages 1994; Erdem and Lifschitz 2003): the atoms of such a program do not rest on one another in a circle.
use Rattle.std.specs.Prelude.{◌≡◌, ◌≢◌, ℕ, ◌<◌, ◌⊎◌, Bool, false, List, Option, Some, IsTrue}
use Rattle.std.specs.List.{Contains}
use Rattle.theory_form.specs.declared.literals.Lit.{Lit}
use Rattle.theory_form.specs.Literals.{IsAscending}
use Rattle.theory_form.specs.Theories.{TheoryView, block_of, clause_of}
use Rattle.theory_form.specs.Truth.{IsFalseIn, IsSettled, value_of}
use Rattle.loop_nogoods.specs.Bodies.{body_lits, support_lits}

-- The atoms of the program have levels. Where a support of an atom is the positive literal of a body, each atom of the
-- program that stands positively in the body is of a lower level than the atom.
abbrev pub IsTight : TheoryView → ℕ → Type 0
IsTight t block =
    (level : ℕ → ℕ)
    × ((v : ℕ) (s l : Lit) → block_of t v ≡ Some block → Contains (support_lits t v) s → IsTrue s.yes →
    Contains (body_lits t s.var.0) l → IsTrue l.yes → block_of t l.var.0 ≡ Some block → level l.var.0 < level v)

-- each atom of the program that is not false has a support that is not
abbrev pub AreSupported : TheoryView → ℕ → List (Option Bool) → Type 0
AreSupported t block a =
    (v : ℕ) → block_of t v ≡ Some block → value_of a v ≢ Some false →
    (s : Lit) × Contains (support_lits t v) s × (IsFalseIn a s → ⊥)

-- for each atom of the program the theory has a clause that the atom is false or one of its supports is true
abbrev pub HasSupportClauses : TheoryView → ℕ → Type 0
HasSupportClauses t block =
    (v : ℕ) → block_of t v ≡ Some block →
    (id : ℕ) × (c : List Lit) × (clause_of t id ≡ Some c) × IsAscending c
    × ((l : Lit) → Contains c l → (l ≡ record { var = record { 0 = v }; yes = false }) ⊎ Contains (support_lits t v) l)

-- no clause of the theory is unit or false
abbrev pub AreClausesSettled : TheoryView → List (Option Bool) → Type 0
AreClausesSettled t a = (id : ℕ) (c : List Lit) → clause_of t id ≡ Some c → IsSettled a c
