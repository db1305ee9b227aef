use Rattle.std.proofs.Common.{length, ◌-◌}
use Rattle.asp_store.specs.Watch.{IsLonger}
use Rattle.asp_store.proofs.watches.Lists.grow.Given as goal

abbrev pub invariant-rows : goal.invariant-rows
invariant-rows l = IsLonger l.initial.self-inside.lists.items l.self-inside.lists.items

abbrev pub decreases-rows : goal.decreases-rows
decreases-rows l = l.wanted - length l.self-inside.lists.items
