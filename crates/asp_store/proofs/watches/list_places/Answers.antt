use Rattle.std.proofs.Common.{get_or, ◌∙◌}
use Rattle.asp_store.specs.Watch.{code}
use Rattle.asp_store.proofs.ExamineLemmas.{HasWatcher-place, listed_first, listed_second, zero_lit}
use Rattle.asp_store.proofs.WatchLemmas.{Grows-trans, contains_place}
use Rattle.asp_store.proofs.watches.list_places.Goals as goal

pub list_moved-requires : goal.list_moved-requires
list_moved-requires c = rw c.as_slice-c.ensures (record { within = c.requires.places.first_code zero_lit })

pub list_moved-requires-2 : goal.list_moved-requires-2
list_moved-requires-2 c = rw c.as_slice-c.ensures (record { within = rw c.in_ok-list_moved.ensures.grows.len (c.requires.places.second_code zero_lit) })

pub returns-clause-grows : goal.returns-clause-grows
returns-clause-grows c = Grows-trans _ _ _ c.in_ok-list_moved.ensures.grows c.in_ok-list_moved-2.ensures.grows

pub returns-in_err-list_moved-2-clause-grows : goal.returns-in_err-list_moved-2-clause-grows
returns-in_err-list_moved-2-clause-grows c = Grows-trans _ _ _ c.in_ok-list_moved.ensures.grows c.list_moved-2.ensures.grows

pub returns-clause-listed : goal.returns-clause-listed
returns-clause-listed c =
    let k = c.args.kept.now in
    let p = c.requires.places in
    let first = (rw c.as_slice-c.ensures at c.in_ok-list_moved.ensures.listed) k.clause (λ e. listed_first c.args.lists.now c.args.id c.args.i k zero_lit c.requires.listed p.first_in e) (contains_place k.clause c.args.j zero_lit p.second_in) in
    let g = c.in_ok-list_moved.ensures.grows in
    let second = (rw c.as_slice-c.ensures at c.in_ok-list_moved-2.ensures.listed) k.clause (λ e. g.kept (code (get_or k.clause c.args.j zero_lit)) c.args.id k.clause (listed_second c.args.lists.now c.args.id c.args.j k zero_lit c.requires.listed p.second_in e)) (contains_place k.clause c.args.i zero_lit p.first_in) in
    record {
      first = λ d within. c.in_ok-list_moved-2.ensures.grows.kept _ c.args.id k.clause (HasWatcher-place _ k.clause c.args.i c.args.id k.clause zero_lit d within first);
      second = λ d within. HasWatcher-place _ k.clause c.args.j c.args.id k.clause zero_lit d within second;
    }

pub returns-clause-stable : goal.returns-clause-stable
returns-clause-stable c x one two =
    (rw c.as_slice-c.ensures at c.list_moved-2.ensures.stable) x (λ moved. two moved zero_lit) ∙ (rw c.as_slice-c.ensures at c.list_moved.ensures.stable) x (λ moved. one moved zero_lit)

pub returns-in_err-list_moved-clause-stable : goal.returns-in_err-list_moved-clause-stable
returns-in_err-list_moved-clause-stable c x one two = (rw c.as_slice-c.ensures at c.list_moved.ensures.stable) x (λ moved. one moved zero_lit)

pub returns-in_err-list_moved-2-clause-stable : goal.returns-in_err-list_moved-2-clause-stable
returns-in_err-list_moved-2-clause-stable c x one two =
    (rw c.as_slice-c.ensures at c.list_moved-2.ensures.stable) x (λ moved. two moved zero_lit) ∙ (rw c.as_slice-c.ensures at c.list_moved.ensures.stable) x (λ moved. one moved zero_lit)
