use Rattle.std.proofs.Common.{◌≡◌, ◌-◌, length}
use Rattle.asp_store.specs.Store.{IsStore, Grew}
use Rattle.asp_store.proofs.plain.Store.propagate.Given as goal

abbrev pub invariant-rounds : goal.invariant-rounds
invariant-rounds l = record {
  clauses : l.self-inside.clauses ≡ l.initial.self-inside.clauses;
  places : l.self-inside.trail.places ≡ l.initial.self-inside.trail.places;
  store : IsStore l.self-inside.clauses.slots l.self-inside.trail.entries l.self-inside.trail.places;
  grew : Grew l.self-inside.clauses.slots l.self-inside.trail.places l.initial.self-inside.trail.entries l.self-inside.trail.entries;
}

abbrev pub decreases-rounds : goal.decreases-rounds
decreases-rounds l = l.self-inside.trail.places - length l.self-inside.trail.entries
