use Rattle.theory_form.proofs.LookLemmas.{TrueAt-read}
use Rattle.asp_store.proofs.ExamineLemmas.{any_lit}
use Rattle.asp_store.proofs.WatchLemmas.{ChoiceOk-true, Stay-free}
use Rattle.asp_store.proofs.choices.choose_watched.Goals as goal

pub returns-then-is_true : goal.returns-then-is_true
returns-then-is_true c =
    let a = c.args.a.now in
    let k = c.args.k.now in
    ChoiceOk-true a k k.first c.requires.first_in c.requires.second_in (TrueAt-read a k.clause k.first _ c.requires.first_in (rw c.as_slice-c.ensures at (c.is_true.ensures.0 c.if-is_true.true)))

pub returns-then-is_true-2 : goal.returns-then-is_true-2
returns-then-is_true-2 c =
    let a = c.args.a.now in
    let k = c.args.k.now in
    ChoiceOk-true a k k.second c.requires.first_in c.requires.second_in (TrueAt-read a k.clause k.second _ c.requires.second_in (rw c.as_slice-c.ensures at (c.is_true-2.ensures.0 c.if-is_true-2.true)))

pub returns-then-are_free : goal.returns-then-are_free
returns-then-are_free c =
    let a = c.args.a.now in
    let k = c.args.k.now in
    let yes = c.if-are_free.true in
    let first = rw c.as_slice-c.ensures at (c.are_free.ensures.first yes) in
    let second = rw c.as_slice-c.ensures at (c.are_free.ensures.second yes) in
    (Stay-free a k any_lit first second (c.are_free.ensures.apart yes), c.requires.first_in)
