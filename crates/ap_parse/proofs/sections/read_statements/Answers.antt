use Rattle.std.proofs.Common.{false, arith}
use Rattle.std.proofs.lemmas.Grind.{common_steps}
use Rattle.literal_parse.proofs.Steps.{exit}
use Rattle.ap_parse.proofs.SectionLemmas.{grows_more, grows_fail, grows_end, statement_shorter}
use Rattle.ap_parse.proofs.sections.read_statements.Goals as goal

pub returns-in_err-next-clause-read : goal.returns-in_err-next-clause-read
returns-in_err-next-clause-read c = exit c.in_err-next.ensures.read c.from_residual.ensures.1 (grows_fail c.statements.invariant.so_far c.statements-test.ensures)

pub statements-smaller : goal.statements-smaller
statements-smaller c = statement_shorter false c.args.of_type c.in_ok-next.ensures.read

pub statements-preserved : goal.statements-preserved
statements-preserved c = record { shorter = grind (arith, common_steps); so_far = rw c.in_ok-push.ensures.items (grows_more c.statements.invariant.so_far c.in_ok-next.ensures.read) }

pub returns-clause-read : goal.returns-clause-read
returns-clause-read c = grows_end {all = c.statements.statements} c.statements.invariant.so_far c.statements-test.ensures
