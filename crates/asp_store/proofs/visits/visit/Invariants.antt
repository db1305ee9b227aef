use Rattle.std.proofs.Common.{◌≡◌, ◌-◌, length}
use Rattle.asp_store.specs.Watch.{list_at, code}
use Rattle.asp_store.proofs.VisitLemmas.{VisitAt}
use Rattle.asp_store.proofs.visits.visit.Given as goal

abbrev pub invariant-watchers : goal.invariant-watchers
invariant-watchers l = record {
  places : l.trail.places ≡ l.initial.trail.places;
  next : l.clauses.vacant_key ≡ l.initial.clauses.vacant_key;
  at : VisitAt l.initial.clauses.slots l.clauses.slots l.initial.lists l.lists l.initial.trail.places l.initial.trail.entries l.trail.entries l.l l.i;
}

abbrev pub decreases-watchers : goal.decreases-watchers
decreases-watchers l = length (list_at l.lists (code l.l)) - l.i
