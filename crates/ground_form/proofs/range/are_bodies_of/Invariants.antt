use Rattle.std.proofs.Common.{take}
use Rattle.std.specs.Prelude.{All}
use Rattle.ground_form.specs.Ranges.{IsBodyOf}
use Rattle.ground_form.proofs.range.are_bodies_of.Given as goal

abbrev pub invariant-loop-body : goal.invariant-loop-body
invariant-loop-body l = All (IsBodyOf l.atoms l.groups) (take l.body-index l.bodies)
