use Rattle.std.proofs.Common.{◌≡◌, ◌++◌, length, reverse}
use Rattle.program_parts.proofs.gather.reversed.Given as goal

-- what was taken stands behind the last one of what is left, from the last to the first
abbrev pub invariant-statements : goal.invariant-statements
invariant-statements l = reverse l.initial.statements ≡ l.list.items ++ reverse l.statements

abbrev pub decreases-statements : goal.decreases-statements
decreases-statements l = length l.statements
