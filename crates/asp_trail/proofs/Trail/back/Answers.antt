use Rattle.std.proofs.Common.{◌≡◌, ◌-◌, arith, length, take, reverse, refl, sym, ap, ◌∙◌, length-set}
use Rattle.asp_trail.specs.Trail.{level_after}
use Rattle.asp_trail.proofs.TrailLemmas.{HoldsTrail-pop, back-pop, back-done}
use Rattle.asp_trail.proofs.Trail.back.Goals as goal

pub loop-self-preserved-in-Decision : goal.loop-self-preserved-in-Decision
loop-self-preserved-in-Decision c =
    let f = c.loop-self.self-inside in
    let e = c.in-Some.entry in
    let split = c.in-Some.ensures.items in
    let lower : f.level ≡ level_after e.why (f.level - 1) = rw c.in-Decision.is (let t = c.loop-self-test.true in omega arith) in
    let front : _ ≡ take (length f.lits.items - 1) f.lits.items = c.pop-lit.ensures.rest ∙ ap (λ n. take (n - 1) f.lits.items) f.lits.ok.0 in
    record {
      holds = rw (c.clear.ensures, c.in-Some.ensures.capacity, c.pop-lit.ensures.capacity)
          (HoldsTrail-pop f.values f.entries.items _ f.lits.items _ f.reasons.items e f.level (f.level - 1) _ _ c.loop-self.invariant.holds split front lower);
      same = sym (back-pop f.values f.entries.items _ e f.level _ c.args.level c.loop-self.invariant.holds.holds split c.loop-self-test.true) ∙ c.loop-self.invariant.same;
      places = rw c.clear.ensures (length-set f.values _ _ ∙ c.loop-self.invariant.places);
    }

pub loop-self-preserved : goal.loop-self-preserved
loop-self-preserved c =
    let f = c.loop-self.self-inside in
    let e = c.in-Some.entry in
    let split = c.in-Some.ensures.items in
    let lower : f.level ≡ level_after e.why f.level = rw c.in_default.is refl in
    let front : _ ≡ take (length f.lits.items - 1) f.lits.items = c.pop-lit.ensures.rest ∙ ap (λ n. take (n - 1) f.lits.items) f.lits.ok.0 in
    record {
      holds = rw (c.clear.ensures, c.in-Some.ensures.capacity, c.pop-lit.ensures.capacity)
          (HoldsTrail-pop f.values f.entries.items _ f.lits.items _ f.reasons.items e f.level f.level _ _ c.loop-self.invariant.holds split front lower);
      same = sym (back-pop f.values f.entries.items _ e f.level _ c.args.level c.loop-self.invariant.holds.holds split c.loop-self-test.true) ∙ c.loop-self.invariant.same;
      places = rw c.clear.ensures (length-set f.values _ _ ∙ c.loop-self.invariant.places);
    }

pub returns : goal.returns
returns c =
    let f = c.loop-self.self-inside in
    let i = c.loop-self.invariant in
    let low = c.loop-self-test.false in
    let level_is = i.holds.holds.level_is in
    let done = back-done c.args.level (reverse f.entries.items) (omega (arith, level_is)) in
    let entries = sym done ∙ i.same in
    let places = i.places in
    rw (← c.self.view_is) (rw (entries, places) refl)
