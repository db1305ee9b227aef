use Rattle.std.proofs.Common.{◌≡◌, ◌≤◌, ◌-◌, length}
use Rattle.definite.specs.Searches.{IsSearch, AreSettled, IsDrained}
use Rattle.definite.proofs.search.drain.Given as goal

abbrev pub invariant-loop-next : goal.invariant-loop-next
invariant-loop-next l = record {
  search : IsSearch l.rules l.waits l.found;
  settled : AreSettled l.rules l.waits l.found;
  drained : IsDrained l.waits l.found l.next;
  next : l.next ≤ length l.found.order;
  size : length l.found.marks ≡ length l.fn.found.marks;
}

abbrev pub decreases-loop-next : goal.decreases-loop-next
decreases-loop-next l = length l.found.marks - l.next
