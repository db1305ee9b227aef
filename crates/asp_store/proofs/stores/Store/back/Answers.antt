use Rattle.std.proofs.Common.{◌<◌, length, take, arith, sym, refl, subst, vec_capacity}
use Rattle.asp_trail.specs.Trail.{back}
use Rattle.asp_trail.proofs.TrailLemmas.{back-done}
use Rattle.asp_store.specs.Watch.{IsWatchStore}
use Rattle.asp_store.proofs.KeepLemmas.{IsWatchStore-back}
use Rattle.asp_store.proofs.stores.Store.back.Goals as goal

pub invariant_of-self : goal.invariant_of-self
invariant_of-self c =
    let f = c.self.inside in
    let k = c.args.level in
    let low = c.if-k-len.true in
    let below : k < length f.marks.items = omega (arith, low, c.len.ensures, f.marks.ok.0) in
    rw (c.back.ensures, c.truncate.ensures.items, c.truncate.ensures.capacity)
    (subst (λ m. IsWatchStore f.clauses.slots f.lists f.empties.items f.pending.items f.trail.places (back k f.trail.entries) (take k f.marks.items) m (vec_capacity f.marks)) (sym c.index.ensures)
    (IsWatchStore-back f.clauses.slots f.lists f.empties.items f.pending.items f.trail.places f.trail.entries f.marks.items f.top (vec_capacity f.marks) k c.index.result.now below c.self.invariant))

pub returns-else-k-len : goal.returns-else-k-len
returns-else-k-len c =
    let f = c.self.inside in
    let low = c.if-k-len.false in
    let levels = c.self.invariant.watched.below.levels in
    let done = back-done c.args.level f.trail.entries (omega (arith, low, c.len.ensures, levels, f.marks.ok.0)) in
    rw (← c.self.view_is) (rw done refl)
