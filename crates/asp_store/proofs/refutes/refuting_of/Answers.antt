use Rattle.std.proofs.Common.{ℕ}
use Rattle.asp_store.specs.Watch.{IsRefutingAt}
use Rattle.asp_store.proofs.RefuteLemmas.{match_weaker}
use Rattle.asp_store.proofs.refutes.refuting_of.Goals as goal

pub returns : goal.returns
returns c =
    match_weaker {X = ℕ} c.refuting_in.result _ _ (λ key. IsRefutingAt c.args.clauses.now.slots c.args.assume.now key) (λ all room. all) (rw c.watchers_of.ensures at c.refuting_in.ensures)
