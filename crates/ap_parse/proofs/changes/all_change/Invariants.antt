use Rattle.std.proofs.Common.{◌≡◌, ◌++◌, take, drop}
use Rattle.ap_parse.specs.Changes.{changing}
use Rattle.ap_parse.proofs.changes.all_change.Given as goal

abbrev pub invariant-loop-statement : goal.invariant-loop-statement
invariant-loop-statement l = changing l.first l.statements ≡ take l.statement-index l.statements ++ changing l.part (drop l.statement-index l.statements)
