use Rattle.std.proofs.Common.{◌≡◌, take}
use Rattle.rule_joins.proofs.variables.copied.Given as goal

abbrev pub invariant-loop-at : goal.invariant-loop-at
invariant-loop-at l = l.copies ≡ take l.at l.variables.entries
