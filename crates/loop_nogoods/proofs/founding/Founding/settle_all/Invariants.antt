use Rattle.std.proofs.Common.{ℕ, Bool, take}
use Rattle.std.specs.List.{All}
use Rattle.loop_nogoods.specs.declared.waits.Wait.{Wait}
use Rattle.loop_nogoods.specs.Bodies.{body_lits}
use Rattle.loop_nogoods.specs.Founding.{IsRested, IsSound, Misses, Step}
use Rattle.sets.specs.Sets.{IsSubset}
use Rattle.loop_nogoods.specs.Marks.{marked}
use Rattle.loop_nogoods.proofs.founding.Founding.settle_all.Given as goal

abbrev pub invariant-loop-entry : goal.invariant-loop-entry
invariant-loop-entry l = record {
  step : Step l.t l.fn.self l.self;
  rested : All (λ (e : Wait). IsRested l.t l.self e.head.0) (take l.entry-index l.list);
  sound : (w : ℕ → Bool) → IsSubset w (marked l.fn.self.atoms) → All (λ (e : Wait). Misses w e.head.0 (take e.place (body_lits l.t e.head.0))) l.list → IsSound l.t w l.fn.self → IsSound l.t w l.self;
}
