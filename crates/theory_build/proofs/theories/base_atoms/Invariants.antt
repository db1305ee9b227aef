use Rattle.std.proofs.Common.{◌≡◌, ℕ, ◌<◌, ◌≤◌, ◌-◌, length, get_or, true}
use Rattle.theory_form.specs.declared.rows.VarKind.{VarKind}
use Rattle.theory_build.specs.Completion.{is_atom}
use Rattle.theory_build.proofs.theories.base_atoms.Given as goal

abbrev pub invariant-loop-atoms : goal.invariant-loop-atoms
invariant-loop-atoms l = (l.atoms ≤ length l.t.variables) × ((k : ℕ) (d : VarKind) → k < l.atoms → is_atom (get_or l.t.variables k d) ≡ true)

abbrev pub decreases-loop-atoms : goal.decreases-loop-atoms
decreases-loop-atoms l = length l.t.variables - l.atoms
