-- How a theory keeps its variables.
use Rattle.std.specs.Prelude.{◌≡◌, ℕ, suc, ◌+◌, ◌<◌, ◌≤◌, ◌==◌, ◌++◌, Bool, false, if◌then◌else◌, List, [], ◌∷◌, length, map, slice_index_or, slice_set, Option, Some, None, MatchOption}
use Rattle.theory_form.specs.declared.literals.Lit.{Lit}
use Rattle.theory_form.specs.declared.literals.Var.{Var as VarOf}
use Rattle.theory_form.specs.declared.rows.SumRow.{SumRow}
use Rattle.theory_form.specs.declared.rows.BodyRow.{BodyRow}
use Rattle.theory_form.specs.declared.rows.VarKind.{VarKind}
use Rattle.theory_form.specs.declared.rows.VarKind.TheVariants as kind
use Rattle.theory_form.specs.declared.theories.Variable.{Variable}
use Rattle.theory_form.specs.declared.theories.Variable.TheVariants.{Atom, Sum, Body, Search, Other}
use Rattle.theory_form.specs.Numbers.{at_number}
use Rattle.theory_form.specs.Theories.{IsTheory}

-- what a kept variable stands for
abbrev pub kept_kind : Variable → VarKind
kept_kind (Atom block supports) = kind.Atom block supports
kept_kind (Sum row) = kind.Sum row.terms row.bound
kept_kind (Body row) = kind.Body row.lits
kept_kind Search = kind.Search
kept_kind Other = kind.Other

-- the row of a kept sum variable, and of a kept body variable
abbrev pub kept_sum : Variable → Option SumRow
kept_sum (Atom block supports) = None
kept_sum (Sum row) = Some row
kept_sum (Body row) = None
kept_sum Search = None
kept_sum Other = None

abbrev pub kept_body : Variable → Option BodyRow
kept_body (Atom block supports) = None
kept_body (Sum row) = None
kept_body (Body row) = Some row
kept_body Search = None
kept_body Other = None

-- its row, if it has one, is of the variable of this number
abbrev pub HasNumber : ℕ → Variable → Type 0
HasNumber v (Atom block supports) = Unit {0}
HasNumber v (Sum row) = row.var.0 ≡ v
HasNumber v (Body row) = row.var.0 ≡ v
HasNumber v Search = Unit {0}
HasNumber v Other = Unit {0}

-- ---- the lists of the programs' atoms

-- the variable is an atom of this program
abbrev pub is_atom_of : ℕ → VarKind → Bool
is_atom_of block (kind.Atom b supports) = b == block
is_atom_of block (kind.Sum terms bound) = false
is_atom_of block (kind.Body lits) = false
is_atom_of block kind.Search = false
is_atom_of block kind.Other = false

-- the atoms of a program among variables that are numbered from v on
abbrev pub atoms_from : ℕ → List VarKind → ℕ → List VarOf
atoms_from v [] block = []
atoms_from v (k ∷ ks) block = if is_atom_of block k then record { 0 = v } ∷ atoms_from (suc v) ks block else atoms_from (suc v) ks block

-- each program's list has its atoms
abbrev pub AreLists : List VarKind → List (List VarOf) → Type 0
AreLists kinds lists = (block : ℕ) → block < length lists → slice_index_or lists block [] ≡ atoms_from 1 kinds block

-- the lists after one more variable
abbrev pub listed : List (List VarOf) → VarOf → VarKind → List (List VarOf)
listed lists var (kind.Atom block supports) = slice_set lists block (slice_index_or lists block [] ++ var ∷ [])
listed lists var (kind.Sum terms bound) = lists
listed lists var (kind.Body lits) = lists
listed lists var kind.Search = lists
listed lists var kind.Other = lists

-- the lists after a variable of this kind, the last one, was taken out
abbrev pub Unlists : List (List VarOf) → List (List VarOf) → VarKind → Type 0
Unlists old new (kind.Atom block supports) =
    (kept : List VarOf) × (new ≡ slice_set old block kept) × ((vs : List VarOf) (v : VarOf) → slice_index_or old block [] ≡ vs ++ v ∷ [] → kept ≡ vs)
Unlists old new (kind.Sum terms bound) = new ≡ old
Unlists old new (kind.Body lits) = new ≡ old
Unlists old new kind.Search = new ≡ old
Unlists old new kind.Other = new ≡ old

-- ---- the search guard

-- the search guard after one more variable
abbrev pub guard_after : Option VarOf → VarOf → VarKind → Option VarOf
guard_after guard var (kind.Atom block supports) = guard
guard_after guard var (kind.Sum terms bound) = guard
guard_after guard var (kind.Body lits) = guard
guard_after guard var kind.Search = Some var
guard_after guard var kind.Other = guard

-- this is the search guard, or there is none
abbrev pub IsGuard : List VarKind → Option VarOf → Type 0
IsGuard kinds guard = MatchOption guard ((v : ℕ) → at_number kinds v ≡ Some kind.Search → ⊥) (λ g. at_number kinds g.0 ≡ Some kind.Search)

-- the search guard, if it is among so many variables
pub record IsCutGuard (guard : Option VarOf) (variables : ℕ) (kept : Option VarOf) : Type 0 where
  pub none : guard ≡ None → kept ≡ None
  pub within : (g : VarOf) → guard ≡ Some g → g.0 ≤ variables → kept ≡ Some g
  pub above : (g : VarOf) → guard ≡ Some g → variables < g.0 → kept ≡ None

-- what is true of the fields of every theory
pub record HoldsTheory (items : List Variable) (clauses : List (Option (List Lit))) (lists : List (List VarOf)) (reserved : ℕ) (guard : Option VarOf) (room : ℕ) : Type 0 where
  pub rows : (v : ℕ) (k : Variable) → at_number items v ≡ Some k → HasNumber v k
  pub theory : IsTheory (record { variables = map kept_kind items; clauses = clauses; blocks = length lists; reserved = reserved })
  pub lists_are : AreLists (map kept_kind items) lists
  pub guard_is : IsGuard (map kept_kind items) guard
  pub room_is : length clauses + reserved ≤ room
