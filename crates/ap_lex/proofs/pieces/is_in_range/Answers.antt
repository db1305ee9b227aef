use Rattle.std.proofs.Common.{◌+◌, sym, arith}
use Rattle.ap_lex.proofs.NumberLemmas.{number_of_more, out_of_range}
use Rattle.ap_lex.proofs.pieces.is_in_range.Goals as goal

-- the digits so far stand for too much
pub returns-then-number-gt-MAX_NUMBER : goal.returns-then-number-gt-MAX_NUMBER
returns-then-number-gt-MAX_NUMBER c =
    let i = c.loop-digit.digit-index in
    sym (out_of_range c.args.digits.now (i + 1) (omega (arith, number_of_more c.args.digits.now i c.loop-digit-test.true)))
