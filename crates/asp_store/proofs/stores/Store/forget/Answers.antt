use Rattle.asp_store.proofs.StoreLemmas.{none_from_test}
use Rattle.asp_store.proofs.EditLemmas.{Removes-kept}
use Rattle.asp_store.proofs.KeepLemmas.{IsWatchStore-removes}
use Rattle.asp_store.proofs.stores.Store.forget.Goals as goal

pub invariant_of-self : goal.invariant_of-self
invariant_of-self c =
    let f = c.self.inside in
    let u = c.remove-kept.ensures.updates in
    let none = none_from_test _ _ c.if-is_reason.false c.is_reason.ensures in
    IsWatchStore-removes f.clauses.slots _ f.lists f.empties.items f.pending.items f.trail.places f.trail.entries f.marks.items f.top _ c.args.id.0 u.changed u.others
    (rw (← c.self.view_is) at none) c.self.invariant

pub returns-clause-gone : goal.returns-clause-gone
returns-clause-gone c _ =
    let f = c.self.inside in
    let u = c.remove-kept.ensures.updates in
    rw (← c.self.view_is) (Removes-kept f.clauses.slots _ c.args.id.0 u.changed u.others)
