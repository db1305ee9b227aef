use Rattle.std.proofs.Common.{◌<◌, arith, subst, sym}
use Rattle.theory_form.specs.Truth.{IsFreeIn}
use Rattle.asp_trail.proofs.TrailLemmas.{room_from_free, level_of-le-length}
use Rattle.asp_store.specs.Store.{State, assigned}
use Rattle.asp_store.proofs.KeepLemmas.{IsWatchStore-decided}
use Rattle.asp_store.proofs.stores.Store.decide.Goals as goal

pub push_reserved-requires : goal.push_reserved-requires
push_reserved-requires c =
    let f = c.self.inside in
    let q = subst (λ (s : State). (c.args.l.var.0 < s.places) × IsFreeIn (assigned s) c.args.l) (sym c.self.view_is) (c.requires.within, c.requires.free) in
    let room = room_from_free f.trail.places f.trail.entries c.args.l.var.0 c.assignment-trail.ensures.trail q.0 q.1 in
    let le = level_of-le-length f.trail.entries in
    let levels = c.self.invariant.watched.below.levels in
    let fit = c.self.invariant.levels_fit in
    omega (arith, room, le, levels, fit, f.marks.ok.0)

pub invariant_of-self : goal.invariant_of-self
invariant_of-self c =
    let f = c.self.inside in
    let free = subst (λ (s : State). IsFreeIn (assigned s) c.args.l) (sym c.self.view_is) c.requires.free in
    rw (c.push.ensures, c.push_reserved.ensures.items, c.push_reserved.ensures.capacity)
    (IsWatchStore-decided f.clauses.slots f.lists f.empties.items f.pending.items f.trail.places f.trail.entries f.marks.items f.top _ c.args.l free c.self.invariant)
