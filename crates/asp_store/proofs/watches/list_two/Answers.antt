use Rattle.std.proofs.Common.{get_or, arith}
use Rattle.asp_store.specs.Watch.{code}
use Rattle.asp_store.proofs.ExamineLemmas.{zero_lit}
use Rattle.asp_store.proofs.EditLemmas.{Listed-new}
use Rattle.asp_store.proofs.WatchLemmas.{Grows-trans, contains_place}
use Rattle.asp_store.proofs.watches.list_two.Goals as goal

pub returns-clause-grows : goal.returns-clause-grows
returns-clause-grows c = Grows-trans _ _ _ c.in_ok-list_moved.ensures.grows c.in_ok-list_moved-2.ensures.grows

pub returns-clause-listed : goal.returns-clause-listed
returns-clause-listed c =
    let lits = c.args.lits.now in
    let i = c.args.first in
    let j = c.args.second in
    let low = c.requires.first_in in
    let one = c.in_ok-list_moved.ensures.listed lits (λ e. absurd (omega (arith, e, low))) (contains_place lits j zero_lit c.requires.second_in) in
    let g = c.in_ok-list_moved-2.ensures.grows in
    let two = c.in_ok-list_moved-2.ensures.listed lits (λ e. rw e one) (contains_place lits i zero_lit c.requires.first_in) in
    Listed-new _ c.args.id lits i j zero_lit zero_lit c.requires.first_in c.requires.second_in (g.kept (code (get_or lits i zero_lit)) c.args.id lits one) two
