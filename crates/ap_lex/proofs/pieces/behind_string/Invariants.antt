use Rattle.std.proofs.Common.{◌≡◌, ◌≤◌, length}
use Rattle.ap_lex.specs.Pieces.{behind_string}
use Rattle.ap_lex.proofs.pieces.behind_string.Given as goal

abbrev pub invariant-loop-first : goal.invariant-loop-first
invariant-loop-first l = record { same : behind_string l.rest ≡ behind_string l.text; shorter : length l.rest ≤ length l.text }

abbrev pub decreases-loop-first : goal.decreases-loop-first
decreases-loop-first l = length l.rest
