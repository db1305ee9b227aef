use Rattle.std.proofs.Common.{◌≡◌, false, take}
use Rattle.asp_engine.specs.Moves.{held_by}
use Rattle.asp_engine.proofs.forgetting.is_held.Given as goal

abbrev pub invariant-loop-query : goal.invariant-loop-query
invariant-loop-query l = held_by (take l.query-index l.others) l.number.0 ≡ false
