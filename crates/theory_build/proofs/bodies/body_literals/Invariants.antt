use Rattle.std.proofs.Common.{◌≡◌, map}
use Rattle.std.specs.List.{range_with_len}
use Rattle.theory_build.specs.Bodies as spec
use Rattle.theory_build.proofs.bodies.body_literals.Given as goal

abbrev pub invariant-loop-body : goal.invariant-loop-body
invariant-loop-body l = l.lits.items ≡ map (spec.body_lit l.p l.g) (range_with_len 1 l.body-index)
