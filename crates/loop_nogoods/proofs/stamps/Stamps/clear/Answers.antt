use Rattle.std.proofs.Common.{arith}
use Rattle.loop_nogoods.proofs.StampLemmas.{none_of_later}
use Rattle.loop_nogoods.proofs.stamps.Stamps.clear.Goals as goal

pub returns-in-Some : goal.returns-in-Some
returns-in-Some c =
    let s = c.self.inside in
    none_of_later c.in-Some.round s.stamps.items (λ i d lt. let low = c.self.invariant.earlier i d lt in let e = c.in-Some.ensures.1 in omega arith)
