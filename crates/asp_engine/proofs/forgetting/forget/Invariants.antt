use Rattle.std.proofs.Common.{true}
use Rattle.asp_engine.specs.Forgetting.{Forgot}
use Rattle.asp_engine.specs.Moves.{held_by}
use Rattle.asp_engine.proofs.forgetting.forget.Given as goal

abbrev pub invariant-loop-at : goal.invariant-loop-at
invariant-loop-at l = Forgot (held_by l.others) true l.initial.e l.e
