use Rattle.std.proofs.Common.{◌≡◌, map, take}
use Rattle.small_optima.specs.Unbeaten.{marks_of}
use Rattle.small_optima.proofs.preferred.all_marks.Given as goal

abbrev pub invariant-loop-set : goal.invariant-loop-set
invariant-loop-set l = l.rows.items ≡ map (marks_of l.elements) (take l.set-index l.sets)
