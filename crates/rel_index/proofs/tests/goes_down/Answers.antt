use Rattle.rel_index.proofs.Descent.{below_five, apart}
use Rattle.rel_index.proofs.tests.goes_down.Goals as goal

pub returns-clause-within : goal.returns-clause-within
returns-clause-within c = λ _. below_five c.args.bound.now c.loop-at.at c.loop-at.invariant c.loop-at-test.false

pub returns-clause-distinct : goal.returns-clause-distinct
returns-clause-distinct c = λ _. apart c.args.bound.now c.loop-at.at c.loop-at.invariant c.loop-at-test.false (record { 0 = 0 })
