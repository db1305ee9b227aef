use Rattle.std.proofs.Common.{◌≤◌, ◌-◌, length}
use Rattle.ap_lex.specs.Tokens.{Reads}
use Rattle.ap_lex.proofs.lexer.tokens_before_fault.Given as goal

-- the text up to the place reads as what was found
abbrev pub invariant-loop-piece : goal.invariant-loop-piece
invariant-loop-piece l = record { reads : Reads l.bytes 0 l.found.items l.at; within : l.at ≤ length l.bytes }

abbrev pub decreases-loop-piece : goal.decreases-loop-piece
decreases-loop-piece l = length l.bytes - l.at
