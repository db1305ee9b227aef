use Rattle.std.proofs.Common.{arith, refl}
use Rattle.theory_form.proofs.OrderLemmas.{ascending_from_adjacent}
use Rattle.theory_form.proofs.clauses.is_ascending.Goals as goal

pub returns : goal.returns
returns c = (
  λ t. ascending_from_adjacent c.args.lits.now (λ k d below. c.loop-i.invariant k d (let end = c.loop-i-test.false in omega arith)),
  λ h. refl,
)
