use Rattle.std.proofs.Common.{◌≡◌, length, take}
use Rattle.components.proofs.marks.cut.Given as goal

abbrev pub invariant-loop-list : goal.invariant-loop-list
invariant-loop-list l = take l.size l.list ≡ take l.size l.fn.list

abbrev pub decreases-loop-list : goal.decreases-loop-list
decreases-loop-list l = length l.list
