use Rattle.std.proofs.Common.{ℕ, Bool, take}
use Rattle.std.specs.List.{All}
use Rattle.loop_nogoods.specs.Bodies.{support_lits}
use Rattle.loop_nogoods.specs.Founding.{IsSettled, IsSound, Keeps, Step}
use Rattle.sets.specs.Sets.{IsSubset}
use Rattle.loop_nogoods.specs.Marks.{marked}
use Rattle.loop_nogoods.proofs.founding.Founding.settle_atom.Given as goal

abbrev pub invariant-loop-support : goal.invariant-loop-support
invariant-loop-support l = record {
  step : Step l.t l.fn.self l.self;
  settled : All (IsSettled l.a l.self l.v.0) (take l.support-index l.support-items);
  sound : (w : ℕ → Bool) → IsSubset w (marked l.fn.self.atoms) → All (Keeps l.t l.a w l.v.0) (support_lits l.t l.v.0) → IsSound l.t w l.fn.self → IsSound l.t w l.self;
}
