-- A run with the words, or none for want of memory.
use Rattle.std.proofs.Common.{refl}
use Rattle.asprin_cli.proofs.Running.{memory_runs}
use Rattle.asprin_cli.proofs.program.run.Goals as goal

pub returns-in-Ok-clause-ran : goal.returns-in-Ok-clause-ran
returns-in-Ok-clause-ran g c = rw c.in-Ok.ensures (rw c.new.ensures (rw c.deref.ensures.value at c.solve_run.ensures.ran))

pub returns-in-Err-clause-ran : goal.returns-in-Err-clause-ran
returns-in-Err-clause-ran g c = memory_runs _ _ _ _ c.new-in-Err.ensures refl refl refl refl refl
