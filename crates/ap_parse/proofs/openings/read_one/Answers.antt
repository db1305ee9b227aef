use Rattle.literal_parse.proofs.Steps.{exit}
use Rattle.ap_parse.proofs.OpeningLemmas.{one_statement, one_opening_fails, one_opening}
use Rattle.ap_parse.proofs.openings.read_one.Goals as goal

pub returns-then-begins_statement-clause-read : goal.returns-then-begins_statement-clause-read
returns-then-begins_statement-clause-read c = one_statement c.args.of_type c.if-begins_statement.ensures c.read_statement.ensures.read

pub returns-in_err-opening-clause-read : goal.returns-in_err-opening-clause-read
returns-in_err-opening-clause-read c = exit c.in_err-opening.ensures.read c.from_residual.ensures.1 (one_opening_fails c.args.of_type c.if-begins_statement.ensures)

pub returns-clause-read : goal.returns-clause-read
returns-clause-read c = rw c.into_statement.ensures (one_opening c.args.of_type c.if-begins_statement.ensures c.in_ok-opening.ensures.read)
