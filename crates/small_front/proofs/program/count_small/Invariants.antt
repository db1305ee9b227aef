use Rattle.std.proofs.Common.{◌≡◌, ◌+◌, ◌≤◌, drop, length}
use Rattle.std.specs.List.{filter_map}
use Rattle.small_front.specs.Forms.{small_statement_of}
use Rattle.small_front.proofs.program.count_small.Given as goal

-- what is found of all is as much as was counted and what is found of the rest
abbrev pub invariant-loop-statement : goal.invariant-loop-statement
invariant-loop-statement l =
    (length (filter_map small_statement_of l.statements) ≡ l.count + length (filter_map small_statement_of (drop l.statement-index l.statements)))
    × (l.count ≤ l.statement-index)
