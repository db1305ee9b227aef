use Rattle.agg_nogoods.proofs.AnswerLemmas.{found_holds, found_over}
use Rattle.agg_nogoods.proofs.propagation.propagate.Goals as goal

pub returns-in-Some-clause-holds : goal.returns-in-Some-clause-holds
returns-in-Some-clause-holds c = found_holds c.args.row.now c.args.a.now c.propagate_terms.result c.propagate_terms.ensures.answer

pub returns-in-None-clause-holds : goal.returns-in-None-clause-holds
returns-in-None-clause-holds c = found_holds c.args.row.now c.args.a.now c.propagate_own.result c.propagate_own.ensures.answer

pub returns-in-Some-clause-over : goal.returns-in-Some-clause-over
returns-in-Some-clause-over c = found_over c.args.row.now c.propagate_terms.result c.propagate_terms.ensures.counts

pub returns-in-None-clause-over : goal.returns-in-None-clause-over
returns-in-None-clause-over c = found_over c.args.row.now c.propagate_own.result c.propagate_own.ensures.counts
