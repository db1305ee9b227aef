use Rattle.asp_store.proofs.ExamineLemmas.{any_lit}
use Rattle.asp_store.proofs.WatchLemmas.{ChoiceOk-true, ChoiceOk-single, ChoiceOk-same}
use Rattle.asp_store.proofs.choices.choose_new.Goals as goal

pub returns-in-True : goal.returns-in-True
returns-in-True c =
    ChoiceOk-true c.args.a.now c.args.k.now c.in-True.j c.requires.first_in c.requires.second_in (rw c.as_slice.ensures at c.in-True.ensures)

pub returns-then-i-k : goal.returns-then-i-k
returns-then-i-k c =
    ChoiceOk-same c.args.a.now c.args.k.now c.in-Single.i c.requires.first_in c.requires.second_in c.if-i-k.true (rw c.as_slice.ensures at c.in-Single.ensures)

pub returns-else-i-k : goal.returns-else-i-k
returns-else-i-k c =
    ChoiceOk-single c.args.a.now c.args.k.now any_lit c.in-Single.i c.requires.second_in c.if-i-k.false (rw c.as_slice.ensures at c.in-Single.ensures)
