use Rattle.std.proofs.Common.{◌<◌, ◌≤◌, ◌*◌, Ok, ℕ, length, ap, ◌∙◌, arith}
use Rattle.std.proofs.lemmas.List.{length-reverse}
use Rattle.asp_trail.specs.declared.Entry.{Entry}
use Rattle.asp_trail.specs.declared.Why.TheVariants.{Decision}
use Rattle.asp_store.proofs.ExamineLemmas.{any_lit}
use Rattle.asp_store.proofs.LevelLemmas.{Moved-trans}
use Rattle.asp_store.proofs.HeadLemmas.{IsWatched-visited, AllSettled-watched, code-opposite, false_at_head, length-le-places}
use Rattle.asp_store.proofs.visits.heads.Goals as goal

any_entry : Entry
any_entry = record { lit = any_lit; why = Decision }

pub visit-requires-clause-within : goal.visit-requires-clause-within
visit-requires-clause-within c =
    let es = c.heads.trail.entries in
    let value = c.entries.ensures.value in
    let below : c.heads.top.head < length es = let h = c.heads-test.true in let q = ap length value ∙ length-reverse es in omega (arith, h, q) in
    let is = rw c.entries-in-heads.ensures.value at c.opposite-l.ensures in
    let len = c.heads.invariant.moved.len in
    let room = c.requires.room in
    let places = c.heads.invariant.places in
    let wide : 2 * c.heads.trail.places ≤ length c.heads.lists = omega (arith, len, room, places) in
    rw is (code-opposite c.heads.lists c.heads.trail.places c.heads.top.head es _ c.entries.ensures.trail below wide)

pub visit-requires-clause-is_false : goal.visit-requires-clause-is_false
visit-requires-clause-is_false c =
    let es = c.heads.trail.entries in
    let value = c.entries.ensures.value in
    let below : c.heads.top.head < length es = let h = c.heads-test.true in let q = ap length value ∙ length-reverse es in omega (arith, h, q) in
    let is = rw c.entries-in-heads.ensures.value at c.opposite-l.ensures in
    rw is (false_at_head c.heads.trail.places c.heads.top.head es _ c.entries.ensures.trail below)

pub returns-in_err-found-clause-moved : goal.returns-in_err-found-clause-moved
returns-in_err-found-clause-moved c =
    let m = rw c.heads.invariant.places at c.visit.ensures.moved in
    Moved-trans _ _ _ _ _ _ _ _ _ _ c.heads.invariant.moved m

pub returns-in_err-found-clause-watched : goal.returns-in_err-found-clause-watched
returns-in_err-found-clause-watched c =
    let w = rw c.heads.invariant.places at c.visit.ensures.watched in
    w _ _ _ c.heads.invariant.watched

pub returns-in-Some-clause-moved : goal.returns-in-Some-clause-moved
returns-in-Some-clause-moved c =
    let m = rw c.heads.invariant.places at c.visit.ensures.moved in
    Moved-trans _ _ _ _ _ _ _ _ _ _ c.heads.invariant.moved m

pub returns-in-Some-clause-watched : goal.returns-in-Some-clause-watched
returns-in-Some-clause-watched c =
    let w = rw c.heads.invariant.places at c.visit.ensures.watched in
    w _ _ _ c.heads.invariant.watched

pub heads-smaller : goal.heads-smaller
heads-smaller c =
    let es = c.heads.trail.entries in
    let value = c.entries.ensures.value in
    let below : c.heads.top.head < length es = let h = c.heads-test.true in let q = ap length value ∙ length-reverse es in omega (arith, h, q) in
    let le = length-le-places c.heads.trail.places es c.entries.ensures.trail in
    let same = c.visit.ensures.places in
    omega (arith, below, le, same)

pub heads-preserved : goal.heads-preserved
heads-preserved c =
    let i = c.heads.invariant in
    let es = c.heads.trail.entries in
    let n : ℕ = c.args.trail.now.places in
    let value = c.entries.ensures.value in
    let below : c.heads.top.head < length es = let h = c.heads-test.true in let q = ap length value ∙ length-reverse es in omega (arith, h, q) in
    let m = rw i.places at c.visit.ensures.moved in
    let w = rw i.places at c.visit.ensures.watched in
    let is = rw c.entries-in-heads.ensures.value at c.opposite-l.ensures in
    let visited = rw (i.places, is) at c.visit.ensures.visited in
    let t = rw i.places at c.entries.ensures.trail in
    record {
      places = c.visit.ensures.places ∙ i.places;
      next = c.visit.ensures.next ∙ i.next;
      moved = Moved-trans _ _ _ _ _ _ _ _ _ _ i.moved m;
      watched = IsWatched-visited _ _ _ _ _ n es _ _ _ c.heads.top.head c.heads.top.done _ t below i.settled i.watched (w _ _ _ i.watched) (visited (c.in_ok-found.was ∙ ap Ok c.in_default.is)) m.grew;
      settled = i.settled;
    }

pub returns-clause-answer : goal.returns-clause-answer
returns-clause-answer c =
    let i = c.heads.invariant in
    let value = c.entries.ensures.value in
    let low = c.heads-test.false in
    let inside = i.watched.now.head_in in
    let q = ap length value ∙ length-reverse c.heads.trail.entries in
    AllSettled-watched _ _ _ _ c.heads.top (omega (arith, low, inside, q)) i.settled i.watched.now
