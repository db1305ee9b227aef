use Rattle.std.proofs.Common.{◌≡◌, ◌++◌, length, reverse}
use Rattle.std.specs.List.{filter_map}
use Rattle.small_front.specs.Forms.{small_statement_of}
use Rattle.small_front.proofs.program.small_program.Given as goal

-- the small program is what is found of those that are left, and what was found, from the last to the first
abbrev pub invariant-statements : goal.invariant-statements
invariant-statements l = filter_map small_statement_of l.initial.statements ≡ filter_map small_statement_of l.statements ++ reverse l.small.items

abbrev pub decreases-statements : goal.decreases-statements
decreases-statements l = length l.statements
