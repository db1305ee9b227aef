use Rattle.literal_parse.proofs.Steps.{exit}
use Rattle.pref_parse.proofs.OperatorLemmas.{range_none, range_fails, range_read}
use Rattle.pref_parse.proofs.operators.read_range.Goals as goal

pub returns-then-not-eat-clause-read : goal.returns-then-not-eat-clause-read
returns-then-not-eat-clause-read c = range_none c.if-not-eat.ensures

pub returns-in_err-high-clause-read : goal.returns-in_err-high-clause-read
returns-in_err-high-clause-read c = exit c.in_err-high.ensures.read c.from_residual.ensures.1 (range_fails c.if-not-eat.ensures)

pub returns-clause-read : goal.returns-clause-read
returns-clause-read c = rw (c.in_ok-left.ensures, c.in_ok-right.ensures) (range_read c.if-not-eat.ensures c.in_ok-high.ensures.read)
