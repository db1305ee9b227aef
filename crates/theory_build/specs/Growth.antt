-- How a theory grows.
use Rattle.std.specs.Prelude.{◌≡◌, ℕ, ◌<◌, ⊤, List, ◌++◌, All, Option}
use Rattle.theory_form.specs.declared.literals.Lit.{Lit}
use Rattle.theory_form.specs.declared.rows.VarKind.{VarKind}
use Rattle.theory_form.specs.declared.rows.VarKind.TheVariants.{Atom, Sum, Body, Search, Other}
use Rattle.theory_form.specs.Kinds.{IsRow}
use Rattle.theory_form.specs.Theories.{TheoryView}
use Rattle.theory_build.specs.declared.entries.Entry.{Entry}

-- the theory with some variables and clauses more
pub record IsGrown (old new : TheoryView) : Type 0 where
  pub variables : List VarKind
  pub clauses : List (Option (List Lit))
  pub is : new ≡ record old { variables = old.variables ++ variables; clauses = old.clauses ++ clauses }

-- such a variable may be added to a theory with so many programs, whether it has a search guard or not
abbrev pub IsAddable : ℕ → VarKind → Type 0
IsAddable blocks (Atom block supports) = block < blocks
IsAddable blocks (Sum terms bound) = IsRow terms bound
IsAddable blocks (Body lits) = ⊤
IsAddable blocks Search = ⊥
IsAddable blocks Other = ⊤

abbrev pub AreAddable : ℕ → List Entry → Type 0
AreAddable blocks entries = All (λ (e : Entry). IsAddable blocks e.kind) entries
