use Rattle.std.proofs.Common.{◌≡◌, ◌++◌, length, reverse}
use Rattle.ap_parse.specs.Changes.{changing}
use Rattle.ap_parse.proofs.changes.changing.Given as goal

abbrev pub invariant-statements : goal.invariant-statements
invariant-statements l = changing l.fn.first l.fn.statements ≡ l.kept.items ++ changing l.part (reverse l.rest)

abbrev pub decreases-statements : goal.decreases-statements
decreases-statements l = length l.rest
