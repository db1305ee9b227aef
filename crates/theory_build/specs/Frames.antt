-- Where a program stands in a theory: how many variables stand before its atoms; its number; the variable that is true; the
-- number from which on its groups' variables stand; and the literals that are joined to its inputs, in their order.
use Rattle.std.specs.Prelude.{ℕ, suc, ◌+◌, ℤ, pos, negsuc, List, [], length}
use Rattle.theory_form.specs.declared.literals.Lit.{Lit}
use Rattle.ground_form.specs.Programs.{Parts}
pub use Rattle.theory_build.specs.declared.frames.Frame.{Frame}
use Rattle.theory_build.specs.Entries.{yes, no}

-- The base program, number 0: its atoms from 1 on, then the variable that is true, then its groups. It has no inputs.
abbrev pub base_frame : Parts → Frame
base_frame g = record { before = 0; block = 0; truth = length g.atoms + 1; groups_from = length g.atoms + 2; joins = [] }

-- A program that is appended behind so many variables, under this number: it has no variable of its own that is true.
abbrev pub later_frame : ℕ → ℕ → ℕ → List Lit → Parts → Frame
later_frame before block truth joins g =
    record { before = before; block = block; truth = truth; groups_from = before + length g.atoms + 1; joins = joins }

-- the variable of an atom
abbrev pub atom_var : Frame → ℕ → ℕ
atom_var p a = p.before + a

-- the literal of an atom's number, or of a negative one
abbrev pub atom_lit : Frame → ℤ → Lit
atom_lit p (pos a) = yes (atom_var p a)
atom_lit p (negsuc k) = no (atom_var p (suc k))
