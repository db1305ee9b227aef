use Rattle.std.proofs.Common.{arith}
use Rattle.ap_lexemes.proofs.ListingLemmas.{written-bound}
use Rattle.ap_lexemes.proofs.listing.number.Goals as goal

pub overflow_mul-number : goal.overflow_mul-number
overflow_mul-number c =
    omega (arith, written-bound c.loop-digit.number c.args.digits.now c.loop-digit.digit-index 0 c.loop-digit-test.true, c.loop-digit.invariant, c.requires.fits)

pub overflow_add-number : goal.overflow_add-number
overflow_add-number c =
    omega (arith, written-bound c.loop-digit.number c.args.digits.now c.loop-digit.digit-index 0 c.loop-digit-test.true, c.loop-digit.invariant, c.requires.fits, c.from.ensures)
