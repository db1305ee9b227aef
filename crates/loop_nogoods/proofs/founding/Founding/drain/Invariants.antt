use Rattle.std.proofs.Common.{◌+◌, ◌-◌, length}
use Rattle.loop_nogoods.specs.Founding.{Drains, mark_count}
use Rattle.loop_nogoods.proofs.founding.Founding.drain.Given as goal

abbrev pub invariant-loop-v : goal.invariant-loop-v
invariant-loop-v l = Drains l.t l.fn.self l.self

abbrev pub decreases-loop-v : goal.decreases-loop-v
decreases-loop-v l = length l.self.pending.items + (length l.self.founded - mark_count l.self.founded)
