use Rattle.std.proofs.Common.{arith}
use Rattle.theory_form.specs.declared.literals.Var.{Var}
use Rattle.proof_log.proofs.ConditionLemmas.{ascending_more}
use Rattle.proof_log.proofs.conditions.are_ascending.Goals as goal

abbrev no_var : Var
no_var = record { 0 = 0 }

pub loop-i-preserved : goal.loop-i-preserved
loop-i-preserved c = ascending_more c.args.vars.now c.loop-i.i no_var (omega arith) (omega arith) c.loop-i-test.true c.loop-i.invariant
