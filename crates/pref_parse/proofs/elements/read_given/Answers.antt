use Rattle.literal_parse.proofs.Steps.{exit}
use Rattle.pref_parse.proofs.ElementLemmas.{given_none, given_fails, given_read}
use Rattle.pref_parse.proofs.elements.read_given.Goals as goal

pub returns-then-not-eat-clause-read : goal.returns-then-not-eat-clause-read
returns-then-not-eat-clause-read c = given_none c.if-not-eat.ensures

pub returns-in_err-given-clause-read : goal.returns-in_err-given-clause-read
returns-in_err-given-clause-read c = exit c.in_err-given.ensures.read c.from_residual.ensures.1 (given_fails c.if-not-eat.ensures)

pub returns-clause-read : goal.returns-clause-read
returns-clause-read c = given_read c.if-not-eat.ensures c.in_ok-given.ensures.read
