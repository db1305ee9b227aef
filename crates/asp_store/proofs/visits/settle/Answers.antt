use Rattle.std.proofs.Common.{◌∙◌, refl, arith}
use Rattle.asp_store.proofs.LevelLemmas.{Moved-stays, IsWatched-stays, Moved-there, IsWatched-there}
use Rattle.asp_store.proofs.visits.settle.Goals as goal

pub returns-in_err-examine-clause-moved : goal.returns-in_err-examine-clause-moved
returns-in_err-examine-clause-moved c =
    Moved-stays _ _ _ _ _ _ _ _ _ _ c.waiting.invariant.moved c.in_err-examine.ensures.err c.examine.ensures.grows

pub returns-in_err-examine-clause-watched : goal.returns-in_err-examine-clause-watched
returns-in_err-examine-clause-watched c marks h =
    IsWatched-stays _ _ _ _ _ _ _ _ marks _ c.in_err-examine.ensures.err c.examine.ensures.grows (c.waiting.invariant.watched marks h)

pub returns-in-None-clause-moved : goal.returns-in-None-clause-moved
returns-in-None-clause-moved c =
    let look = rw c.in-None.is at c.in_ok-examine.ensures.look in
    Moved-stays _ _ _ _ _ _ _ _ _ _ c.waiting.invariant.moved (look.1, look.2) c.examine.ensures.grows

pub returns-in-None-clause-watched : goal.returns-in-None-clause-watched
returns-in-None-clause-watched c marks h =
    let look = rw c.in-None.is at c.in_ok-examine.ensures.look in
    IsWatched-stays _ _ _ _ _ _ _ _ marks _ (look.1, look.2) c.examine.ensures.grows (c.waiting.invariant.watched marks h)

pub waiting-preserved : goal.waiting-preserved
waiting-preserved c =
    let i = c.waiting.invariant in
    let look = rw (c.in-Some.is, i.places) at c.in_ok-examine.ensures.look in
    let t = rw i.places at c.examine.ensures.trail in
    let more = c.waiting-test.true in
    record {
      places = c.examine.ensures.places ∙ i.places;
      next = c.examine.ensures.next ∙ i.next;
      head = i.head;
      done_in = omega arith;
      moved = Moved-there _ _ _ _ _ _ _ _ _ _ _ i.moved look.0;
      watched = λ marks h. IsWatched-there _ _ _ _ _ _ _ _ marks c.waiting.top.head c.waiting.top.done _ i.moved.store t look.0 more refl (i.watched marks h);
    }
