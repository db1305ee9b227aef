use Rattle.std.proofs.Common.{ℕ}
use Rattle.asp_store.specs.Watch.{IsRefutingAt}
use Rattle.asp_store.proofs.RefuteLemmas.{match_weaker, none_refuting}
use Rattle.asp_store.proofs.refutes.find_refuting.Goals as goal

pub returns : goal.returns
returns c =
    match_weaker {X = ℕ} c.refuting_watcher.result _ _ (λ key. IsRefutingAt c.args.clauses.now.slots c.args.assume.now key)
    (none_refuting c.args.clauses.now.slots c.args.lists.now c.args.empties.now c.args.assume.now c.args.places c.requires.listed c.requires.empties c.requires.within c.requires.room c.in_default.ensures)
    c.refuting_watcher.ensures
