use Rattle.std.proofs.Common.{◌<◌, List, length, take, refl, sym, ◌∙◌, subst}
use Rattle.std.specs.List.{All, Contains}
use Rattle.std.proofs.lemmas.List.{append-nil}
use Rattle.std.proofs.lemmas.List.Elements.{Contains-push}
use Rattle.loop_nogoods.specs.declared.founding.Founding.{Founding}
use Rattle.loop_nogoods.specs.declared.waits.Wait.{Wait}
use Rattle.loop_nogoods.specs.Bodies.{body_lits}
use Rattle.loop_nogoods.specs.Founding.{IsRested, Misses}
use Rattle.loop_nogoods.proofs.DrainLemmas.{Drains-pending, Drains-same, taken_heads, taken_valid, turn_drains}
use Rattle.loop_nogoods.proofs.founding.Founding.drain.Goals as goal

pub loop-v-init : goal.loop-v-init
loop-v-init c = Drains-same c.args.t.now c.args.self.now c.requires.valid c.requires.tended

pub settle_all-requires-clause-valid : goal.settle_all-requires-clause-valid
settle_all-requires-clause-valid c =
    taken_valid c.loop-v.self _ c.in-Some.v c.take-list.result.items c.take-list.ensures refl refl c.in-Some.ensures.items c.loop-v.invariant.valid

pub settle_all-requires-clause-heads : goal.settle_all-requires-clause-heads
settle_all-requires-clause-heads c =
    let s : Founding = c.loop-v.self in
    subst (λ (es : List Wait). All (λ (e : Wait). e.head.0 < length s.founded) es) (sym c.as_slice.ensures.value)
    (taken_heads s c.take-list.new.self c.in-Some.v.0 c.take-list.result.items c.take-list.ensures c.loop-v.invariant.valid)

pub loop-v-preserved : goal.loop-v-preserved
loop-v-preserved c =
    let t = c.args.t.now in
    let s : Founding = c.loop-v.self in
    let mid : Founding = record { atoms = s.atoms; founded = s.founded; waiting = c.take-list.new.self; pending = c.pop.new.self } in
    let end : Founding = c.settle_all.new.self in
    let list : List Wait = c.take-list.result.items in
    let valid = taken_valid s mid c.in-Some.v list c.take-list.ensures refl refl c.in-Some.ensures.items c.loop-v.invariant.valid in
    let queued = c.loop-v.invariant.valid.queued c.in-Some.v (subst (λ xs. Contains xs c.in-Some.v) (sym c.in-Some.ensures.items) (Contains-push c.pop.new.self.items c.in-Some.v)) in
    turn_drains t c.args.self.now s mid end c.in-Some.v list c.take-list.ensures refl refl c.in_ok-settle_all.ensures.step
    (subst (λ (es : List Wait). All (λ (e : Wait). IsRested t end e.head.0) es) c.as_slice.ensures.value c.in_ok-settle_all.ensures.rested)
    valid queued
    (λ w part misses h. c.in_ok-settle_all.ensures.sound w part (subst (λ (es : List Wait). All (λ (e : Wait). Misses w e.head.0 (take e.place (body_lits t e.head.0))) es) (sym c.as_slice.ensures.value) misses) h)
    c.loop-v.invariant

pub returns-clause-drains : goal.returns-clause-drains
returns-clause-drains c =
    Drains-pending c.args.t.now c.args.self.now c.loop-v.self c.pop.new.self (sym (c.in_default.ensures.items ∙ append-nil c.pop.new.self.items)) c.loop-v.invariant
