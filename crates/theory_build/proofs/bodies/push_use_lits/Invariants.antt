use Rattle.std.proofs.Common.{◌≡◌, ◌++◌, map, take}
use Rattle.theory_build.specs.Bodies as spec
use Rattle.theory_build.proofs.bodies.push_use_lits.Given as goal

abbrev pub invariant-loop-guard : goal.invariant-loop-guard
invariant-loop-guard l = l.lits.items ≡ l.fn.lits.items ++ map (spec.use_lit l.p l.guards) (take l.guard-index l.uses)
