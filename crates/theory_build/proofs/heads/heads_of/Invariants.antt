use Rattle.std.proofs.Common.{take}
use Rattle.theory_build.specs.Heads as spec
use Rattle.theory_build.proofs.heads.heads_of.Given as goal

abbrev pub invariant-loop-rule : goal.invariant-loop-rule
invariant-loop-rule l = spec.HasHeads l.p l.g (take l.rule-index l.rule-items) l.heads
