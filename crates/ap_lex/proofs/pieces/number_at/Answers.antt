use Rattle.ap_lex.specs.Bytes.{is_digit}
use Rattle.ap_lex.proofs.FrontLemmas.{front_passes}
use Rattle.ap_lex.proofs.pieces.number_at.Goals as goal

-- the bytes of the front are digits
pub is_number-requires : goal.is_number-requires
is_number-requires c = rw c.digit_len-len.ensures.len (front_passes is_digit c.args.text.now)
