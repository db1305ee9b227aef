use Rattle.std.proofs.Common.{◌<◌, ℕ, get_or}
use Rattle.asp_store.specs.declared.watches.Watcher.{Watcher}
use Rattle.asp_store.specs.Watch.{IsRefutingAt}
use Rattle.asp_store.proofs.refutes.refuting_in.Given as goal

abbrev pub invariant-loop-watcher : goal.invariant-loop-watcher
invariant-loop-watcher l = (k : ℕ) (d : Watcher) → k < l.watcher-index → IsRefutingAt l.clauses.slots l.assume (get_or l.list k d).key → ⊥
