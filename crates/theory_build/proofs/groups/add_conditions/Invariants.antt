use Rattle.std.proofs.Common.{take}
use Rattle.theory_build.specs.Drafts.{Adds, next_of}
use Rattle.theory_build.specs.Groups as spec
use Rattle.theory_build.specs.Pieces.{in_turn}
use Rattle.theory_build.proofs.groups.add_conditions.Given as goal

abbrev pub invariant-loop-condition : goal.invariant-loop-condition
invariant-loop-condition l = Adds l.fn.draft l.draft (in_turn (spec.condition_piece l.p) (next_of l.fn.draft) (take l.condition-index l.conditions)) l.names.items
