use Rattle.std.proofs.Common.{take}
use Rattle.theory_build.specs.Drafts.{AddsTerms, next_of}
use Rattle.theory_build.specs.Groups as spec
use Rattle.theory_build.specs.Pieces.{in_turn}
use Rattle.theory_build.proofs.groups.add_rows.Given as goal

abbrev pub invariant-loop-row : goal.invariant-loop-row
invariant-loop-row l = AddsTerms l.fn.draft l.draft (in_turn (spec.row_piece l.p) (next_of l.fn.draft) (take l.row-index l.rows)) l.terms.items
