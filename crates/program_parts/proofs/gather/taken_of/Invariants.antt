use Rattle.std.proofs.Common.{◌≡◌, ◌++◌, List, length, reverse}
use Rattle.ap_syntax.specs.declared.programs.Statement.{Statement}
use Rattle.program_parts.specs.Taken.{IsTaken}
use Rattle.program_parts.proofs.gather.taken_of.Given as goal

-- some statements were taken, and the rest is left, with the last one first
abbrev pub invariant-statements : goal.invariant-statements
invariant-statements l = (ss : List Statement) × (reverse l.initial.statements.items ≡ ss ++ reverse l.statements.items) × IsTaken ss l.taken

abbrev pub decreases-statements : goal.decreases-statements
decreases-statements l = length l.statements.items
