use Rattle.ap_base.proofs.Found.{found}
use Rattle.ap_base.proofs.mem_source.place_of.Goals as goal

pub returns-then-eq : goal.returns-then-eq
returns-then-eq c = rw c.loop-at.invariant (found _ _ _ _ c.loop-at-test.true c.index-files-at.is (cc))
