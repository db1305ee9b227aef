use Rattle.asp_store.proofs.StoreLemmas.{places_of-last}
use Rattle.asp_store.proofs.inserts.make_rooms.Goals as goal

pub returns-in-Some-clause-lists : goal.returns-in-Some-clause-lists
returns-in-Some-clause-lists c = rw (places_of-last c.args.lits.now c.in-Some.l.now c.requires c.in-Some.ensures.value) c.make_lists.ensures.lists

pub returns-in-Some-clause-levels : goal.returns-in-Some-clause-levels
returns-in-Some-clause-levels c = rw (places_of-last c.args.lits.now c.in-Some.l.now c.requires c.in-Some.ensures.value) c.make_lists.ensures.levels
