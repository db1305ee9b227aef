use Rattle.ap_parse.proofs.AggregateLemmas.{count_read, sum_read, no_function}
use Rattle.ap_parse.proofs.aggregates.read_function.Goals as goal

pub returns-then-eat-clause-read : goal.returns-then-eat-clause-read
returns-then-eat-clause-read c = count_read c.if-eat.ensures

pub returns-then-eat-2-clause-read : goal.returns-then-eat-2-clause-read
returns-then-eat-2-clause-read c = sum_read c.if-eat.ensures c.if-eat-2.ensures

pub returns-else-eat-2-clause-read : goal.returns-else-eat-2-clause-read
returns-else-eat-2-clause-read c = no_function c.if-eat.ensures c.if-eat-2.ensures
