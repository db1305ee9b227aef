use Rattle.std.proofs.Common.{◌<◌, arith, subst, sym}
use Rattle.theory_form.specs.Truth.{IsFreeIn}
use Rattle.asp_trail.specs.Trail.{TrailView, values_of}
use Rattle.asp_trail.proofs.TrailLemmas.{room_for_entry, room_for_lit, level-le-entries, HoldsTrail-push}
use Rattle.asp_trail.proofs.Trail.push.Goals as goal

pub push_reserved-requires : goal.push_reserved-requires
push_reserved-requires c =
    let f = c.self.inside in
    let r = room_for_entry f.values f.entries.items f.level _ c.args.self.now c.args.entry.lit c.self.invariant.holds c.self.view_is c.requires.within c.requires.free in
    omega (arith, r, f.entries.ok.0)

pub push_reserved-requires-2 : goal.push_reserved-requires-2
push_reserved-requires-2 c =
    let f = c.self.inside in
    let r = room_for_lit f.values f.entries.items f.lits.items f.reasons.items f.level _ _ c.args.self.now c.args.entry.lit c.self.invariant c.self.view_is c.requires.within c.requires.free in
    omega (arith, r, f.lits.ok.0)

pub next_level-self-inside-requires : goal.next_level-self-inside-requires
next_level-self-inside-requires c =
    let f = c.self.inside in
    let r = level-le-entries f.values f.entries.items f.level _ c.self.invariant.holds in
    omega (arith, r, f.entries.ok.0, f.entries.ok.1, f.entries.small)

pub invariant_of-self : goal.invariant_of-self
invariant_of-self c =
    let f = c.self.inside in
    let l = c.args.entry.lit in
    rw (c.set.ensures, c.push_reserved.ensures.items, c.push_reserved-2.ensures.items, c.next_level-self-inside.ensures, c.push_reserved.ensures.capacity, c.push_reserved-2.ensures.capacity)
    (HoldsTrail-push f.values f.entries.items f.lits.items f.reasons.items f.level _ _ c.args.entry c.self.invariant
    (subst (λ (s : TrailView). l.var.0 < s.places) (sym c.self.view_is) c.requires.within)
    (subst (λ (s : TrailView). IsFreeIn (values_of s.places s.entries) l) (sym c.self.view_is) c.requires.free))
