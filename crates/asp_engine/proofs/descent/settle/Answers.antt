use Rattle.std.proofs.Common.{sym, subst}
use Rattle.asp_store.specs.Store.{State}
use Rattle.asp_engine.specs.Search.{Stands}
use Rattle.asp_engine.proofs.NewLemmas.{stands_grew, true_grew}
use Rattle.asp_engine.proofs.descent.settle.Goals as goal

pub returns-clause-stands : goal.returns-clause-stands
returns-clause-stands c =
    let s = c.args.store.now in
    subst (λ (x : State). Stands x.clauses x.places c.args.assume.now x.entries) (sym c.propagate-found.ensures.same) (stands_grew s.clauses s.places c.args.assume.now s.entries c.propagate-found.new.self.entries c.propagate-found.ensures.grew c.requires.stands)

pub returns-clause-kept : goal.returns-clause-kept
returns-clause-kept c = true_grew c.args.store.now c.propagate-found.new.self c.propagate-found.ensures.same c.propagate-found.ensures.grew c.assignment-assignment.ensures.trail
