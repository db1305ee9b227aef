use Rattle.std.proofs.Common.{◌≡◌, ◌++◌, length, reverse}
use Rattle.ap_parse.proofs.changes.reversed.Given as goal

abbrev pub invariant-statements : goal.invariant-statements
invariant-statements l = reverse l.initial.statements ≡ l.all.items ++ reverse l.statements

abbrev pub decreases-statements : goal.decreases-statements
decreases-statements l = length l.statements
