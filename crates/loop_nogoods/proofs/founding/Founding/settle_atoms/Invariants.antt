use Rattle.std.proofs.Common.{take}
use Rattle.loop_nogoods.specs.Founding.{SettlesAll}
use Rattle.loop_nogoods.proofs.founding.Founding.settle_atoms.Given as goal

abbrev pub invariant-loop-v : goal.invariant-loop-v
invariant-loop-v l = SettlesAll l.t l.a l.fn.self l.self (take l.v-index l.vars)
