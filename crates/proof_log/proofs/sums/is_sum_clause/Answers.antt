use Rattle.std.proofs.Common.{sym}
use Rattle.proof_log.proofs.ProgramLemmas.{row_is}
use Rattle.proof_log.proofs.sums.is_sum_clause.Goals as goal

pub implied-requires-clause-row : goal.implied-requires-clause-row
implied-requires-clause-row c = row_is c.args.theory.now c.args.guard.0 c.in-Some.row.now c.var_count.ensures.theory (sym c.in-Some.ensures)
