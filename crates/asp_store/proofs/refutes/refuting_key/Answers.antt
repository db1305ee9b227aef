use Rattle.std.proofs.Common.{ℕ, arith}
use Rattle.asp_store.specs.Watch.{IsRefutingAt}
use Rattle.asp_store.proofs.RefuteLemmas.{each_more}
use Rattle.asp_store.proofs.StoreLemmas.{none_from_test}
use Rattle.asp_store.proofs.refutes.refuting_key.Goals as goal

pub loop-key-preserved : goal.loop-key-preserved
loop-key-preserved c =
    each_more (λ (key : ℕ). IsRefutingAt c.args.clauses.now.slots c.args.assume.now key → ⊥) c.args.keys.now c.loop-key.key-index 0 c.loop-key-test.true c.loop-key.invariant
    (none_from_test _ _ c.if-is_refuting.false c.is_refuting.ensures)

pub returns : goal.returns
returns c = λ k d within. let low = c.loop-key-test.false in c.loop-key.invariant k d (omega (arith, low, within))
