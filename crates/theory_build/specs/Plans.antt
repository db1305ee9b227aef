-- The variables and clauses of a program, before they stand in a theory.
use Rattle.std.specs.Prelude.{◌≡◌}
use Rattle.ground_form.specs.Programs.{Parts}
use Rattle.theory_build.specs.declared.frames.Frame.{Frame}
use Rattle.theory_build.specs.declared.plans.Plan.{Plan}
use Rattle.theory_build.specs.Atoms.{atom_entries, constraint_clauses}
use Rattle.theory_build.specs.Bodies.{body_entries}
use Rattle.theory_build.specs.Groups.{groups_piece}

-- these are the variables of the program that stands so, and its constraints
pub record IsPlan (p : Frame) (g : Parts) (plan : Plan) : Type 0 where
  pub atoms : plan.atoms.items ≡ atom_entries p g
  pub groups : plan.groups.items ≡ (groups_piece p g).entries
  pub bodies : plan.bodies.items ≡ body_entries p g
  pub constraints : plan.constraints.items ≡ constraint_clauses p g
