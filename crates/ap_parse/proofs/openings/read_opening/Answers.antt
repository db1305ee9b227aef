use Rattle.grammar.specs.Takes.{Fails}
use Rattle.literal_parse.proofs.Steps.{exit}
use Rattle.ap_parse.proofs.StatementLemmas.{past}
use Rattle.ap_parse.proofs.OpeningLemmas.{opening_read}
use Rattle.ap_parse.proofs.openings.read_opening.Goals as goal

pub returns-in_err-expect-clause-read : goal.returns-in_err-expect-clause-read
returns-in_err-expect-clause-read c = exit c.in_err-expect.ensures.read c.from_residual.ensures.1 (λ f. Fails.first f)

pub returns-in_err-part-clause-read : goal.returns-in_err-part-clause-read
returns-in_err-part-clause-read c = exit c.in_err-part.ensures.read c.from_residual-in_err-part.ensures.1 (λ f. past c.in_ok-expect.ensures.read f)

pub returns-clause-read : goal.returns-clause-read
returns-clause-read c = opening_read c.place-place.ensures c.in_ok-expect.ensures.read c.in_ok-part.ensures.read
