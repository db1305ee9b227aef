use Rattle.std.proofs.Common.{◌≡◌, drop}
use Rattle.pref_bind.specs.Stacks.{optimised_name}
use Rattle.pref_bind.proofs.binding.optimised_in.Given as goal

abbrev pub invariant-loop-statement : goal.invariant-loop-statement
invariant-loop-statement l = optimised_name l.statements ≡ optimised_name (drop l.statement-index l.statements)
