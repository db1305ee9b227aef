use Rattle.std.proofs.Common.{◌≡◌, ◌-◌, ◌≤◌, List, length}
use Rattle.asp_store.specs.declared.visits.Mark.{Mark}
use Rattle.asp_store.specs.Watch.{IsWatched, Moved}
use Rattle.asp_store.proofs.visits.settle.Given as goal

abbrev pub invariant-waiting : goal.invariant-waiting
invariant-waiting l = record {
  places : l.trail.places ≡ l.initial.trail.places;
  next : l.clauses.vacant_key ≡ l.initial.clauses.vacant_key;
  head : l.top.head ≡ l.initial.top.head;
  done_in : l.top.done ≤ length l.pending;
  moved : Moved l.initial.clauses.slots l.clauses.slots l.initial.lists l.lists l.initial.trail.places l.initial.trail.entries l.trail.entries;
  watched : (marks : List Mark) → IsWatched l.initial.clauses.slots l.initial.lists l.pending l.initial.trail.places l.initial.trail.entries marks l.initial.top → IsWatched l.clauses.slots l.lists l.pending l.initial.trail.places l.trail.entries marks l.top;
}

abbrev pub decreases-waiting : goal.decreases-waiting
decreases-waiting l = length l.pending - l.top.done
