use Rattle.std.proofs.Common.{take}
use Rattle.asp_learn.specs.Marked.{AreCleared}
use Rattle.asp_learn.proofs.marked.clear_all.Given as goal

abbrev pub invariant-loop-v : goal.invariant-loop-v
invariant-loop-v l = AreCleared (take l.v-index l.seen) l.fn.marks l.marks
