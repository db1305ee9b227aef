use Rattle.std.proofs.Common.{◌+◌}
use Rattle.proof_log.proofs.TableLemmas.{IsMadeFalse}
use Rattle.proof_log.proofs.hints.make_false.Given as goal

abbrev pub invariant-loop-l : goal.invariant-loop-l
invariant-loop-l l =
    (goal.iterator-loop-l).can_next l.l-iterator
    × (goal.iterator-loop-l).is_finite l.l-iterator
    × IsMadeFalse (l.vars + 1) l.fn.lits l.l-iterator.iter.rest.now l.initial.values l.values
