-- The theory of a ground program (Clark 1978; Lin and Zhao 2004): variable by variable, and then the constraints.
use Rattle.std.specs.Prelude.{ℕ, suc, ◌+◌, Bool, true, false, List, [], ◌∷◌, ◌++◌, map, length, take_while, Option, Some}
use Rattle.std.specs.List.{flat_map}
use Rattle.theory_form.specs.declared.literals.Lit.{Lit}
use Rattle.theory_form.specs.declared.rows.VarKind.{VarKind}
use Rattle.theory_form.specs.declared.rows.VarKind.TheVariants.{Atom, Sum, Body, Search, Other}
use Rattle.theory_form.specs.Theories.{TheoryView, Extends}
use Rattle.ground_form.specs.Programs.{Parts}
use Rattle.theory_build.specs.declared.entries.Entry.{Entry}
use Rattle.theory_build.specs.Entries.{truth_entry, search_entry}
use Rattle.theory_build.specs.Frames.{Frame, base_frame, later_frame}
use Rattle.theory_build.specs.Groups.{groups_piece}
use Rattle.theory_build.specs.Bodies.{body_entries}
use Rattle.theory_build.specs.Atoms.{atom_entries, constraint_clauses}

-- what the variables stand for, and their clauses, variable by variable
abbrev pub kinds_of : List Entry → List VarKind
kinds_of entries = map (λ (e : Entry). e.kind) entries

abbrev pub clauses_of : List Entry → List (List Lit)
clauses_of entries = flat_map (λ (e : Entry). e.clauses) entries

-- a theory with these variables and their clauses, and then these clauses
abbrev pub with_entries : TheoryView → List Entry → List (List Lit) → TheoryView
with_entries t entries constraints =
    record t {
      variables = t.variables ++ kinds_of entries;
      clauses = t.clauses ++ map (λ c. Some c) (clauses_of entries ++ constraints);
    }

-- a theory with one program more
abbrev pub with_block : TheoryView → TheoryView
with_block t = record t { blocks = t.blocks + 1 }

-- ---- the base

abbrev pub no_theory : TheoryView
no_theory = record { variables = []; clauses = []; blocks = 0; reserved = 0 }

-- the atoms, the variable that is true, the groups, the bodies, and the search guard
unfoldable pub base_entries : Frame → Parts → List Entry
base_entries p g =
    atom_entries p g ++ (truth_entry p.truth ∷ ((groups_piece p g).entries ++ (body_entries p g ++ search_entry ∷ [])))

unfoldable pub base_theory : Parts → TheoryView
base_theory g =
    with_entries (with_block no_theory) (base_entries (base_frame g) g) (constraint_clauses (base_frame g) g)

-- ---- a program behind a theory

-- the atoms, the groups and the bodies
unfoldable pub later_entries : Frame → Parts → List Entry
later_entries p g = atom_entries p g ++ ((groups_piece p g).entries ++ body_entries p g)

abbrev pub is_atom : VarKind → Bool
is_atom (Atom block supports) = true
is_atom (Sum terms bound) = false
is_atom (Body lits) = false
is_atom Search = false
is_atom Other = false

-- how many atoms the base of a theory has: its variables begin with them
unfoldable pub base_atoms : TheoryView → ℕ
base_atoms t = length (take_while is_atom t.variables)

-- the frame of a program behind this theory; what is true in it is the variable behind the atoms of the base
abbrev pub frame_behind : TheoryView → List Lit → Parts → Frame
frame_behind t joins g = later_frame (length t.variables) t.blocks (base_atoms t + 1) joins g

unfoldable pub with_program : TheoryView → Parts → List Lit → TheoryView
with_program t g joins =
    with_entries (with_block t) (later_entries (frame_behind t joins g) g) (constraint_clauses (frame_behind t joins g) g)

-- the theory begins with the base theory of a program
pub record HasBase (t : TheoryView) : Type 0 where
  pub base : Parts
  pub begins : Extends (base_theory base) t
