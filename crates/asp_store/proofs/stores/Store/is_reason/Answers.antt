use Rattle.std.proofs.Common.{sym}
use Rattle.asp_store.proofs.EditLemmas.{clause_gone}
use Rattle.asp_store.proofs.ExamineLemmas.{clause_from_kept}
use Rattle.asp_store.proofs.StoreLemmas.{none_without, reason_test}
use Rattle.asp_store.proofs.stores.Store.is_reason.Goals as goal

pub returns-in-Some : goal.returns-in-Some
returns-in-Some c =
    let f = c.self.inside in
    let k = c.in-Some.kept.now in
    let stored = clause_from_kept f.clauses.slots c.args.id.0 k (sym c.in-Some.ensures) in
    let test = reason_test _ f.trail.places c.args.id.0 k.clause f.trail.entries stored c.self.invariant.store.reasons c.assignment-assignment.ensures.trail in
    rw (← c.self.view_is) (
      (λ yes. test.0 ((rw c.as_slice.ensures at c.is_reason_in.ensures).0 yes)),
      (λ r. (rw c.as_slice.ensures at c.is_reason_in.ensures).1 (test.1 r)),
    )

pub returns-in-None : goal.returns-in-None
returns-in-None c =
    let f = c.self.inside in
    rw (← c.self.view_is) (
      (λ yes. cc),
      (λ r. absurd (none_without _ f.trail.places c.args.id.0 f.trail.entries (clause_gone f.clauses.slots c.args.id.0 (sym c.in-None.ensures)) c.self.invariant.store.reasons r)),
    )
