use Rattle.theory_build.proofs.OrderLemmas.{clause_unique}
use Rattle.theory_build.proofs.clauses.clause.Goals as goal

pub returns : goal.returns
returns c = clause_unique c.in_ok-c.c c.args.lits.items c.in_ok-c.ensures.ascending c.in_ok-c.ensures.same
