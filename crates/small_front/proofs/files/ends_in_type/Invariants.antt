use Rattle.std.proofs.Common.{◌≡◌, false, drop}
use Rattle.small_front.specs.Files.{ends_in_type}
use Rattle.small_front.proofs.files.ends_in_type.Given as goal

-- what the rest opens last counts, and else what was opened before
abbrev pub invariant-loop-statement : goal.invariant-loop-statement
invariant-loop-statement l = ends_in_type false l.statements ≡ ends_in_type l.of_type (drop l.statement-index l.statements)
