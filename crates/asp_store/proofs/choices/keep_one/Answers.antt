use Rattle.std.proofs.Common.{sym}
use Rattle.theory_form.proofs.LookLemmas.{FreeAt-read}
use Rattle.asp_store.proofs.ExamineLemmas.{any_lit}
use Rattle.asp_store.proofs.WatchLemmas.{ChoiceOk-free, ChoiceOk-wide, FreeAt-one}
use Rattle.asp_store.proofs.choices.keep_one.Goals as goal

pub returns-then-is_free : goal.returns-then-is_free
returns-then-is_free c =
    let a = c.args.a.now in
    let k = c.args.k.now in
    let free = FreeAt-read a k.clause k.second _ c.requires.second_in (rw c.as_slice-c.ensures at (c.is_free.ensures.0 c.if-is_free.true)) in
    ChoiceOk-free a k any_lit c.another-first.result k.second c.another-first.ensures.free
    (FreeAt-one a k.clause c.args.i c.args.j _ c.requires.wide c.another-first.ensures.one) free

pub returns-then-is_free-2 : goal.returns-then-is_free-2
returns-then-is_free-2 c =
    let a = c.args.a.now in
    let k = c.args.k.now in
    let free = FreeAt-read a k.clause k.first _ c.requires.first_in (rw c.as_slice-c.ensures at (c.is_free-2.ensures.0 c.if-is_free-2.true)) in
    ChoiceOk-free a k any_lit k.first c.another-second.result (λ e. c.another-second.ensures.free (sym e)) free
    (FreeAt-one a k.clause c.args.i c.args.j _ c.requires.wide c.another-second.ensures.one)

pub returns : goal.returns
returns c = ChoiceOk-wide c.args.a.now c.args.k.now any_lit c.args.i c.args.j c.requires.wide
