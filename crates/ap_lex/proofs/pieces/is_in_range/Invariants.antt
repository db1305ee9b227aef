use Rattle.std.proofs.Common.{◌≡◌, ◌≤◌, take}
use Rattle.ap_lex.specs.Forms.{number_of}
use Rattle.ap_lex.proofs.pieces.is_in_range.Given as goal

abbrev pub invariant-loop-digit : goal.invariant-loop-digit
invariant-loop-digit l = (l.number ≡ number_of (take l.digit-index l.digits)) × (l.number ≤ 2147483647)
