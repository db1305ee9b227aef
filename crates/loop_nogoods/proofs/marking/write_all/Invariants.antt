use Rattle.std.proofs.Common.{take}
use Rattle.loop_nogoods.specs.Marks.{Written}
use Rattle.loop_nogoods.specs.Sets.{has}
use Rattle.loop_nogoods.proofs.marking.write_all.Given as goal

abbrev pub invariant-loop-v : goal.invariant-loop-v
invariant-loop-v l = Written (has (take l.v-index l.vars)) l.value l.fn.marks l.marks
