use Rattle.std.proofs.Common.{subst, sym}
use Rattle.asp_store.specs.Store.{State, IsImpliedBy, assigned}
use Rattle.asp_store.proofs.StoreLemmas.{push_from_implied}
use Rattle.asp_store.proofs.KeepLemmas.{IsWatchStore-assigned}
use Rattle.asp_store.proofs.stores.Store.assign.Goals as goal

pub push-requires : goal.push-requires
push-requires c =
    let r = subst (λ (s : State). IsImpliedBy s.clauses (assigned s) c.args.l c.args.why) (sym c.self.view_is) c.requires in
    let p = push_from_implied _ _ _ c.args.l c.args.why c.self.invariant.store.within r in
    record { within = p.0; free = p.1 }

pub invariant_of-self : goal.invariant_of-self
invariant_of-self c =
    let f = c.self.inside in
    let r = subst (λ (s : State). IsImpliedBy s.clauses (assigned s) c.args.l c.args.why) (sym c.self.view_is) c.requires in
    rw c.push.ensures (IsWatchStore-assigned f.clauses.slots f.lists f.empties.items f.pending.items f.trail.places f.trail.entries f.marks.items f.top _ c.args.l c.args.why r c.self.invariant)
