use Rattle.std.proofs.Common.{arith, refl}
use Rattle.asp_trail.specs.declared.Entry.{Entry}
use Rattle.asp_trail.specs.declared.Why.TheVariants.{Clause}
use Rattle.asp_store.proofs.StoreLemmas.{within_from_reason, free_from_reason, room_from_reason, IsStore-implied, Grew-more}
use Rattle.asp_store.proofs.plain.Store.propagate.Goals as goal

pub push-requires-clause-within : goal.push-requires-clause-within
push-requires-clause-within c = within_from_reason c.rounds.self-inside.trail.places c.rounds.invariant.store.within c.in-Implied.ensures

pub push-requires-clause-free : goal.push-requires-clause-free
push-requires-clause-free c = free_from_reason (rw c.assignment.ensures.value at c.in-Implied.ensures)

pub rounds-smaller : goal.rounds-smaller
rounds-smaller c =
    let t = c.rounds.self-inside.trail in
    let r = rw c.assignment.ensures.value at c.in-Implied.ensures in
    let room = room_from_reason t.places t.entries c.assignment.ensures.trail c.rounds.invariant.store.within r in
    rw c.push.ensures (omega (arith, room))

pub rounds-preserved : goal.rounds-preserved
rounds-preserved c =
    let f = c.rounds.self-inside in
    let e : Entry = record { lit = c.in-Implied.lit; why = Clause c.in-Implied.id } in
    let r = rw c.assignment.ensures.value at c.in-Implied.ensures in
    rw c.push.ensures (record {
      clauses = c.rounds.invariant.clauses;
      places = c.rounds.invariant.places;
      store = IsStore-implied e c.in-Implied.id.0 c.rounds.invariant.store refl r;
      grew = Grew-more f.clauses.slots f.trail.places c.self.inside.trail.entries f.trail.entries e c.in-Implied.id.0 c.rounds.invariant.grew refl r;
    })
