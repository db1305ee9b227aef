use Rattle.asp_store.proofs.StoreLemmas.{places_of-last}
use Rattle.asp_store.proofs.lits.reserve_clause.Goals as goal

pub returns-in-Some-clause-ok : goal.returns-in-Some-clause-ok
returns-in-Some-clause-ok c = rw (places_of-last c.args.lits.now c.in-Some.l.now c.requires c.in-Some.ensures.value) c.reserve.ensures.ok
