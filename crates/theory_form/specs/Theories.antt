-- What a contract sees of a `Theory`.
use Rattle.std.specs.Prelude.{◌≡◌, ℕ, ◌<◌, ◌≤◌, ◌↔◌, List, length, take, Option, Some}
use Rattle.std.specs.List.{Contains}
use Rattle.std.specs.Option.{option_and_then}
use Rattle.theory_form.specs.declared.literals.Lit.{Lit}
use Rattle.theory_form.specs.declared.literals.Var.{Var}
use Rattle.theory_form.specs.declared.rows.SumRow.{SumRow}
use Rattle.theory_form.specs.declared.rows.BodyRow.{BodyRow}
use Rattle.theory_form.specs.declared.theories.Mark.{Mark}
use Rattle.theory_form.specs.declared.rows.VarKind.{VarKind}
use Rattle.theory_form.specs.declared.rows.VarKind.TheVariants.{Atom, Sum, Body, Search, Other}
use Rattle.theory_form.specs.Kinds.{IsKind, IsRow, atom_block, atom_supports, sum_row, body_row}
use Rattle.theory_form.specs.Literals.{AreAscending}
use Rattle.theory_form.specs.Numbers.{at_number}

-- its variables, by what they stand for; its clauses, with nothing at a number that was skipped; how many programs were
-- begun; and how many entries for clauses are reserved
pub record TheoryView : Type 0 where
  pub variables : List VarKind
  pub clauses : List (Option (List Lit))
  pub blocks : ℕ
  pub reserved : ℕ

-- the clause of a number
abbrev pub clause_of : TheoryView → ℕ → Option (List Lit)
clause_of t id = option_and_then (λ slot. slot) (at_number t.clauses id)

-- what the variable of a number stands for
abbrev pub kind_of : TheoryView → ℕ → Option VarKind
kind_of t v = at_number t.variables v

-- the row of a sum variable, and of a body variable
abbrev pub row_of : TheoryView → ℕ → Option SumRow
row_of t v = option_and_then (sum_row v) (kind_of t v)

abbrev pub body_of : TheoryView → ℕ → Option BodyRow
body_of t v = option_and_then (body_row v) (kind_of t v)

-- the program and the supports of an atom variable
abbrev pub block_of : TheoryView → ℕ → Option ℕ
block_of t v = option_and_then atom_block (kind_of t v)

abbrev pub supports_of : TheoryView → ℕ → Option (List Lit)
supports_of t v = option_and_then atom_supports (kind_of t v)

-- these are the atoms of a program, each once, in the order of their numbers
pub record AreAtoms (t : TheoryView) (block : ℕ) (atoms : List Var) : Type 0 where
  pub ascending : AreAscending atoms
  pub members : (v : Var) → Contains atoms v ↔ (block_of t v.0 ≡ Some block)

-- the variable is the search guard
abbrev pub IsSearch : TheoryView → ℕ → Type 0
IsSearch t v = kind_of t v ≡ Some Search

-- what is true of every theory: each variable is one of its programs, and at most one is the search guard
pub record IsTheory (t : TheoryView) : Type 0 where
  pub kinds : (v : ℕ) (k : VarKind) → kind_of t v ≡ Some k → IsKind t.blocks k
  pub guard : (v w : ℕ) → IsSearch t v → IsSearch t w → v ≡ w

-- a variable of this kind may be added
abbrev pub CanAdd : TheoryView → VarKind → Type 0
CanAdd t (Atom block supports) = block < t.blocks
CanAdd t (Sum terms bound) = IsRow terms bound
CanAdd t (Body lits) = Unit {0}
CanAdd t Search = (v : ℕ) → IsSearch t v → ⊥
CanAdd t Other = Unit {0}

-- how much a theory holds
abbrev pub mark_of : TheoryView → Mark
mark_of t = record { variables = length t.variables; clauses = length t.clauses; blocks = t.blocks }

-- the second theory begins with the first
pub record Extends (first second : TheoryView) : Type 0 where
  pub variables : take (length first.variables) second.variables ≡ first.variables
  pub clauses : take (length first.clauses) second.clauses ≡ first.clauses
  pub blocks : first.blocks ≤ second.blocks

-- the mark was made of a theory with which this one begins
pub record IsMarkOf (m : Mark) (t : TheoryView) : Type 0 where
  pub earlier : TheoryView
  pub valid : IsTheory earlier
  pub is_mark : m ≡ mark_of earlier
  pub extends : Extends earlier t

-- the theory without what came since the mark
abbrev pub cut_to : Mark → TheoryView → TheoryView
cut_to m t = record t { variables = take m.variables t.variables; clauses = take m.clauses t.clauses; blocks = m.blocks }
