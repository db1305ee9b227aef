use Rattle.std.proofs.Common.{arith}
use Rattle.asp_store.specs.declared.watches.Watcher.{Watcher}
use Rattle.asp_store.specs.Watch.{IsRefutingAt}
use Rattle.asp_store.proofs.ExamineLemmas.{zero_lit}
use Rattle.asp_store.proofs.RefuteLemmas.{each_more}
use Rattle.asp_store.proofs.StoreLemmas.{none_from_test}
use Rattle.asp_store.proofs.refutes.refuting_in.Goals as goal

pub loop-watcher-preserved : goal.loop-watcher-preserved
loop-watcher-preserved c =
    each_more (λ (w : Watcher). IsRefutingAt c.args.clauses.now.slots c.args.assume.now w.key → ⊥) c.args.list.now c.loop-watcher.watcher-index (record { key = 0; blocker = zero_lit }) c.loop-watcher-test.true c.loop-watcher.invariant
    (none_from_test _ _ c.if-is_refuting.false c.is_refuting.ensures)

pub returns : goal.returns
returns c = λ k d within. let low = c.loop-watcher-test.false in c.loop-watcher.invariant k d (omega (arith, low, within))
