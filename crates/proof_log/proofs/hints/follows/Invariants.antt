use Rattle.std.proofs.Common.{◌+◌}
use Rattle.proof_log.specs.Added.{slots_of}
use Rattle.proof_log.specs.States.{clause_among}
use Rattle.proof_log.proofs.HintLemmas.{IsTried}
use Rattle.proof_log.proofs.hints.follows.Given as goal

abbrev pub invariant-loop-i : goal.invariant-loop-i
invariant-loop-i l = IsTried (clause_among l.theory (slots_of l.added)) (l.vars + 1) l.hints l.i l.initial.values l.values
