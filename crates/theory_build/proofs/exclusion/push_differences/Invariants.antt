use Rattle.std.proofs.Common.{◌≡◌, ◌++◌, map}
use Rattle.std.specs.List.{range_with_len}
use Rattle.theory_build.specs.Exclusion as spec
use Rattle.theory_build.proofs.exclusion.push_differences.Given as goal

abbrev pub invariant-loop-place : goal.invariant-loop-place
invariant-loop-place l = l.lits.items ≡ l.fn.lits.items ++ map (spec.differs_at l.set) (range_with_len 1 l.place)
