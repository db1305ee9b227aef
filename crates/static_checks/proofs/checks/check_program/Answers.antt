-- The programs that were judged are those of the statements.
use Rattle.std.proofs.Common.{Err, Ok, subst}
use Rattle.static_checks.specs.Programs.{programs_of}
use Rattle.static_checks.specs.Told.{IsTold}
use Rattle.static_checks.proofs.JudgeLemmas.{meets_all, told_cause}
use Rattle.static_checks.proofs.checks.check_program.Goals as goal

pub returns-in-Ok-clause-checked : goal.returns-in-Ok-clause-checked
returns-in-Ok-clause-checked c =
    let told = subst (λ parts. IsTold (programs_of parts) (Ok c.in-Ok.safes)) c.in_ok-parts.ensures c.in-Ok.ensures in
    record {
      meets = meets_all c.args.program.statements c.in-Ok.safes (c.in_ok-stack.stack, c.in_ok-stack.ensures) c.in_ok-shapes.ensures told;
      stack = c.in_ok-stack.ensures;
      parts = c.in_ok-parts.ensures;
      safes = told.0;
    }

pub returns-in-Err-clause-refused : goal.returns-in-Err-clause-refused
returns-in-Err-clause-refused c =
    told_cause c.args.program.statements c.in-Err.fault (c.in_ok-stack.stack, c.in_ok-stack.ensures) c.in_ok-shapes.ensures
    (subst (λ parts. IsTold (programs_of parts) (Err c.in-Err.fault)) c.in_ok-parts.ensures c.in-Err.ensures)
