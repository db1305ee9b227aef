use Rattle.std.proofs.Common.{◌≡◌, ◌≤◌, length}
use Rattle.loop_nogoods.proofs.waits.make_lists.Given as goal

abbrev pub invariant-loop : goal.invariant-loop
invariant-loop l = (length l.lists.items ≡ l.counter) × (l.counter ≤ l.places)
