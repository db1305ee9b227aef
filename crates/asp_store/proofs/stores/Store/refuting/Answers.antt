use Rattle.asp_store.proofs.RefuteLemmas.{none_stored, refuting_stored}
use Rattle.asp_store.proofs.stores.Store.refuting.Goals as goal

pub returns-in-Some : goal.returns-in-Some
returns-in-Some c = rw (← c.self.view_is) (refuting_stored _ _ _ c.in-Some.ensures)

pub returns-in-None : goal.returns-in-None
returns-in-None c = rw (← c.self.view_is) (none_stored _ _ c.in-None.ensures)
