use Rattle.std.proofs.Common.{take}
use Rattle.ap_eval.specs.Supports.{AddsBodies}
use Rattle.ap_eval.proofs.acyclic.add_bodies.Given as goal

abbrev pub invariant-loop-rule : goal.invariant-loop-rule
invariant-loop-rule l = AddsBodies l.fn.bodies l.bodies (take l.rule-index l.program)
