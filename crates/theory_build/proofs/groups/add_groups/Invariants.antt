use Rattle.std.proofs.Common.{take, length}
use Rattle.std.specs.List.{enumerate_from}
use Rattle.theory_build.specs.Drafts.{Adds, next_of}
use Rattle.theory_build.specs.Groups as spec
use Rattle.theory_build.specs.Pieces.{in_turn}
use Rattle.theory_build.proofs.groups.add_groups.Given as goal

abbrev pub invariant-loop-place : goal.invariant-loop-place
invariant-loop-place l = Adds l.fn.draft l.draft (in_turn (spec.group_piece_at l.p l.g) (next_of l.fn.draft) (enumerate_from 1 (take l.place l.group-items))) l.guards.items
