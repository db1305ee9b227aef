use Rattle.std.proofs.Common.{[], take}
use Rattle.std.specs.List.{zip}
use Rattle.theory_build.specs.Heads as spec
use Rattle.theory_build.proofs.heads.joined_heads.Given as goal

abbrev pub invariant-loop-place : goal.invariant-loop-place
invariant-loop-place l = spec.HasSupports l.p l.g (zip (take l.place l.input-items) l.p.joins) [] l.heads
