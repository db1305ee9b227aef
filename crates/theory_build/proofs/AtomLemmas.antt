-- The variables of the atoms, from their supports.
use Rattle.std.proofs.Common.{◌≡◌, ℕ, List, ◌++◌, refl}
use Rattle.std.specs.List.{zip}
use Rattle.theory_form.specs.declared.literals.Lit.{Lit}
use Rattle.theory_form.specs.declared.rows.VarKind.TheVariants.{Atom}
use Rattle.theory_form.specs.Literals.{lit_cmp}
use Rattle.ground_form.specs.Programs.{Parts}
use Rattle.theory_build.specs.declared.entries.Entry.{Entry}
use Rattle.theory_build.specs.declared.frames.Frame.{Frame}
use Rattle.theory_build.specs.declared.heads.Supports.{Supports}
use Rattle.theory_build.specs.Ascending.{ascending}
use Rattle.theory_build.specs.Entries.{support_clauses}
use Rattle.theory_build.specs.Frames.{atom_var}
use Rattle.theory_build.specs.Atoms.{atom_entry, bodies_where, joined}
use Rattle.theory_build.specs.Heads.{entry_by, supports_by}

pub entry_made : (p : Frame) (a v : ℕ) (s : Supports) (forcing allowing supports : List Lit) (clauses : List (List Lit)) (entry : Entry) → v ≡ atom_var p a → forcing ≡ s.joined ++ ascending lit_cmp s.forcing → allowing ≡ s.joined ++ ascending lit_cmp s.allowing → supports ≡ allowing → clauses ≡ support_clauses v forcing allowing → entry ≡ record { kind = Atom p.block supports; clauses = clauses } → entry ≡ entry_by p a s
unfolding entry_by
entry_made p a v s forcing allowing supports clauses entry v_is forcing_is allowing_is supports_are clauses_are entry_is = cc

pub entry_of_atom : (p : Frame) (g : Parts) (a : ℕ) → entry_by p a (supports_by p g (zip g.inputs p.joins) g.rules a) ≡ atom_entry p g a
unfolding entry_by atom_entry bodies_where joined
entry_of_atom p g a = refl
