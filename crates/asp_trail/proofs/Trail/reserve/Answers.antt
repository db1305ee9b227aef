use Rattle.asp_trail.proofs.TrailLemmas.{HoldsTrail-grown, HoldsTrail-wider}
use Rattle.asp_trail.proofs.Trail.reserve.Goals as goal

pub invariant_of-self-in_err-reserve : goal.invariant_of-self-in_err-reserve
invariant_of-self-in_err-reserve c =
    let f = c.self.inside in
    rw (c.in_err-reserve.ensures.err, c.in_ok-grow_reasons.ensures.ok, c.reserve_total.ensures.items, c.reserve_total-2.ensures.items)
    (HoldsTrail-wider f.values f.entries.items f.lits.items f.reasons.items _ f.level _ _ _ _ c.self.invariant c.reserve_total.ensures.wider c.reserve_total-2.ensures.wider)

pub invariant_of-self-2 : goal.invariant_of-self-2
invariant_of-self-2 c =
    let f = c.self.inside in
    rw (c.in_ok-reserve.ensures.ok, c.in_ok-grow_reasons.ensures.ok, c.reserve_total.ensures.items, c.reserve_total-2.ensures.items, c.in_ok-places.ensures)
    (HoldsTrail-grown f.values f.entries.items f.lits.items f.reasons.items f.level _ _ _ _ _ c.self.invariant
    (rw (← c.in_ok-places.ensures) c.in_ok-reserve_total.ensures.ok) c.reserve_total.ensures.wider
    (rw (← c.in_ok-places.ensures) c.in_ok-reserve_total-2.ensures.ok) c.reserve_total-2.ensures.wider)
