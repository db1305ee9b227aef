use Rattle.asp_store.proofs.LevelLemmas.{Moved-trans}
use Rattle.asp_store.proofs.visits.run.Goals as goal

pub returns-in_err-found-clause-moved : goal.returns-in_err-found-clause-moved
returns-in_err-found-clause-moved c =
    let v = c.in_ok-waits.ensures.places in
    let m = rw v at c.heads.ensures.moved in
    Moved-trans _ _ _ _ _ _ _ _ _ _ c.settle.ensures.moved m

pub returns-clause-moved : goal.returns-clause-moved
returns-clause-moved c =
    let v = c.in_ok-waits.ensures.places in
    let m = rw v at c.heads.ensures.moved in
    Moved-trans _ _ _ _ _ _ _ _ _ _ c.settle.ensures.moved m

pub returns-clause-answer : goal.returns-clause-answer
returns-clause-answer c =
    let v = c.in_ok-waits.ensures.places in
    rw v at c.in_ok-found.ensures.answer
