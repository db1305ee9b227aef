use Rattle.std.proofs.Common.{◌≡◌, ◌-◌, length}
use Rattle.asp_store.specs.Watch.{IsWatched, Moved}
use Rattle.asp_store.proofs.visits.heads.Given as goal

abbrev pub invariant-heads : goal.invariant-heads
invariant-heads l = record {
  places : l.trail.places ≡ l.initial.trail.places;
  next : l.clauses.vacant_key ≡ l.initial.clauses.vacant_key;
  moved : Moved l.initial.clauses.slots l.clauses.slots l.initial.lists l.lists l.initial.trail.places l.initial.trail.entries l.trail.entries;
  watched : IsWatched l.clauses.slots l.lists l.pending l.initial.trail.places l.trail.entries l.marks l.top;
  settled : l.top.done ≡ length l.pending;
}

abbrev pub decreases-heads : goal.decreases-heads
decreases-heads l = l.trail.places - l.top.head
