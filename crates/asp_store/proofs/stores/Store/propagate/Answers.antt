use Rattle.asp_store.proofs.KeepLemmas.{IsWatchStore-ran}
use Rattle.asp_store.proofs.stores.Store.propagate.Goals as goal

pub invariant_of-self : goal.invariant_of-self
invariant_of-self c =
    let f = c.self.inside in
    let watched = rw (c.as_slice.ensures.value, c.as_slice-2.ensures.value) at c.run.ensures.watched in
    rw c.run.ensures.places
    (IsWatchStore-ran f.clauses.slots _ f.lists _ f.empties.items f.pending.items f.trail.places f.trail.entries _ f.marks.items f.top _ _ c.run.ensures.moved watched c.self.invariant)

pub invariant_of-self-2 : goal.invariant_of-self-2
invariant_of-self-2 c =
    let f = c.self.inside in
    let watched = rw (c.as_slice.ensures.value, c.as_slice-2.ensures.value) at c.run.ensures.watched in
    rw c.run.ensures.places
    (IsWatchStore-ran f.clauses.slots _ f.lists _ f.empties.items f.pending.items f.trail.places f.trail.entries _ f.marks.items f.top _ _ c.run.ensures.moved watched c.self.invariant)

pub returns-clause-answer : goal.returns-clause-answer
returns-clause-answer c = rw c.in_ok-found.ensures.places c.in_ok-found.ensures.answer
