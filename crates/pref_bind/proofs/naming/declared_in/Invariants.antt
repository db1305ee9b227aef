use Rattle.std.proofs.Common.{take}
use Rattle.pref_bind.specs.Before.{IsDeclaredIn}
use Rattle.pref_bind.proofs.naming.declared_in.Given as goal

abbrev pub invariant-loop-statement : goal.invariant-loop-statement
invariant-loop-statement l = IsDeclaredIn (take l.statement-index l.statements) l.declared
