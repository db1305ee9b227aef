use Rattle.asp_learn.proofs.MarkedLemmas.{marked_push}
use Rattle.asp_learn.proofs.marked.visit.Goals as goal

pub returns-clause-marked : goal.returns-clause-marked
returns-clause-marked c = λ base off h.
    rw (c.in_ok-push.ensures.items, c.set.ensures) (marked_push c.args.seen.now.items base c.args.marks.now c.args.v c.requires off h)
