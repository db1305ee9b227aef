use Rattle.std.proofs.Common.{◌≡◌, drop}
use Rattle.ap_grammar.specs.Lexemes.{decimal}
use Rattle.ap_lexemes.proofs.ListingLemmas.{written}
use Rattle.ap_lexemes.proofs.listing.number.Given as goal

-- the number of all digits is that of the digits so far with the others behind it
abbrev pub invariant-loop-digit : goal.invariant-loop-digit
invariant-loop-digit l = decimal l.digits ≡ written l.number (drop l.digit-index l.digits)
