use Rattle.std.proofs.Common.{sym}
use Rattle.asp_store.proofs.EditLemmas.{clause_gone}
use Rattle.asp_store.proofs.ExamineLemmas.{clause_from_kept}
use Rattle.asp_store.proofs.stores.Store.clause.Goals as goal

pub returns-in-Some-clause-value : goal.returns-in-Some-clause-value
returns-in-Some-clause-value c =
    rw (← c.self.view_is, c.as_slice.ensures) (sym (clause_from_kept c.self.inside.clauses.slots c.args.id.0 c.in-Some.kept.now (sym c.in-Some.ensures)))

pub returns-in-Some-clause-ascending : goal.returns-in-Some-clause-ascending
returns-in-Some-clause-ascending c =
    let k = c.in-Some.kept.now in
    let stored = clause_from_kept c.self.inside.clauses.slots c.args.id.0 k (sym c.in-Some.ensures) in
    rw c.as_slice.ensures (c.self.invariant.store.ascending c.args.id.0 k.clause stored)

pub returns-in-None-clause-value : goal.returns-in-None-clause-value
returns-in-None-clause-value c =
    rw (← c.self.view_is) (sym (clause_gone c.self.inside.clauses.slots c.args.id.0 (sym c.in-None.ensures)))
