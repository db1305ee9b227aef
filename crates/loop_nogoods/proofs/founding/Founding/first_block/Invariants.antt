use Rattle.std.specs.Prelude.{IsFalse}
use Rattle.std.specs.List.{AllWithin}
use Rattle.loop_nogoods.specs.Founding.{blocks}
use Rattle.loop_nogoods.proofs.founding.Founding.first_block.Given as goal

abbrev pub invariant-loop-place : goal.invariant-loop-place
invariant-loop-place l = AllWithin (λ m. IsFalse (blocks l.self m)) l.lits l.from l.place
