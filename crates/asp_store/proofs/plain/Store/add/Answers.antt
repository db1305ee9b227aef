use Rattle.std.proofs.Common.{arith, max}
use Rattle.asp_store.specs.Store.{places_of}
use Rattle.asp_store.proofs.StoreLemmas.{IsStore-adds, IsStore-grown, IsWithin-places_of}
use Rattle.asp_store.proofs.plain.Store.add.Goals as goal

pub invariant_of-self-in_err-key : goal.invariant_of-self-in_err-key
invariant_of-self-in_err-key c =
    let f = c.self.inside in
    rw (c.in_err-key.ensures.err, c.in_ok-reserve_clause.ensures.ok)
    (IsStore-grown f.clauses.slots f.trail.entries f.trail.places _ c.reserve_clause.ensures.trail c.self.invariant)

pub invariant_of-self-2 : goal.invariant_of-self-2
invariant_of-self-2 c =
    let f = c.self.inside in
    let lits = c.args.c.now in
    let n = f.trail.places in
    let made = rw c.lits-lits.ensures.literals at c.in_ok-reserve_clause.ensures.ok in
    let adds = rw c.lits-lits.ensures.literals at c.in_ok-key.ensures.added in
    rw made
    (IsStore-adds f.clauses.slots _ f.trail.entries _ _ lits adds (IsWithin-places_of lits (max n (places_of lits)) (omega arith)) c.lits-lits.ensures.ascending
    (IsStore-grown f.clauses.slots f.trail.entries n (places_of lits) c.reserve_clause.ensures.trail c.self.invariant))
