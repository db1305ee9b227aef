use Rattle.std.proofs.Common.{◌+◌}
use Rattle.asp_store.proofs.PlaceLemmas.{IsWatchStore-longer}
use Rattle.asp_store.proofs.KeepLemmas.{IsWatchStore-made}
use Rattle.asp_store.proofs.stores.Store.reserve_trail.Goals as goal

pub invariant_of-self : goal.invariant_of-self
invariant_of-self c =
    let f = c.self.inside in
    rw c.make_lists.ensures.marks
    (IsWatchStore-longer f.clauses.slots f.lists _ f.empties.items f.pending.items f.trail.places f.trail.entries f.marks.items f.top _ _ c.make_lists.ensures.longer c.make_lists.ensures.wider c.self.invariant)

pub invariant_of-self-in_err-reserve : goal.invariant_of-self-in_err-reserve
invariant_of-self-in_err-reserve c =
    let f = c.self.inside in
    rw (c.in_err-reserve.ensures.err, c.make_lists.ensures.marks)
    (IsWatchStore-longer f.clauses.slots f.lists _ f.empties.items f.pending.items f.trail.places f.trail.entries f.marks.items f.top _ _ c.make_lists.ensures.longer c.make_lists.ensures.wider c.self.invariant)

pub invariant_of-self-2 : goal.invariant_of-self-2
invariant_of-self-2 c =
    let f = c.self.inside in
    rw (c.in_ok-reserve.ensures.ok, c.make_lists.ensures.marks)
    (IsWatchStore-made f.clauses.slots f.lists _ f.empties.items f.pending.items f.trail.places (c.args.vars + 1) f.trail.entries f.marks.items f.top _ _ c.in_ok-reserve.ensures.trail
    c.make_lists.ensures.longer c.make_lists.ensures.wider c.in_ok-make_lists.ensures.lists c.in_ok-make_lists.ensures.levels c.self.invariant)
