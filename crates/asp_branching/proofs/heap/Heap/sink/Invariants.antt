use Rattle.std.proofs.Common.{◌≡◌, ◌-◌}
use Rattle.asp_branching.proofs.heap.Heap.sink.Given as goal

abbrev pub invariant-loop-child : goal.invariant-loop-child
invariant-loop-child l = l.self.count ≡ l.fn.self.count

abbrev pub decreases-loop-child : goal.decreases-loop-child
decreases-loop-child l = l.self.count - l.place
