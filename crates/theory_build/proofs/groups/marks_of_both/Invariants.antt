use Rattle.std.proofs.Common.{take, length}
use Rattle.std.specs.List.{list_any}
use Rattle.theory_build.specs.Groups as spec
use Rattle.theory_build.specs.Marks.{AreMarks}
use Rattle.theory_build.proofs.groups.marks_of_both.Given as goal

abbrev pub invariant-loop-body : goal.invariant-loop-body
invariant-loop-body l = AreMarks (length l.g.groups) (λ k. list_any (spec.asks_for_both k) (take l.body-index l.body-items)) l.marks.items
