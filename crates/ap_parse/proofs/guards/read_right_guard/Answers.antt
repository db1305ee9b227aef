use Rattle.literal_parse.proofs.Steps.{exit}
use Rattle.ap_parse.proofs.GuardLemmas.{guard_fails, guard_read}
use Rattle.ap_parse.proofs.guards.read_right_guard.Goals as goal

pub returns-in_err-read-clause-read : goal.returns-in_err-read-clause-read
returns-in_err-read-clause-read c = exit c.in_err-read.ensures.read c.from_residual.ensures.1 (guard_fails c.relation.result c.relation.ensures)

pub returns-clause-read : goal.returns-clause-read
returns-clause-read c = rw (c.unwrap_or-rel.ensures, c.in_ok-term.ensures) (guard_read c.relation.result c.relation.ensures c.in_ok-read.ensures.read)
