use Rattle.std.proofs.Common.{◌≡◌, drop, fold}
use Rattle.ap_safety.specs.Tests.{lower_of}
use Rattle.ap_safety.proofs.conditions.lowest.Given as goal

abbrev pub invariant-loop-pred : goal.invariant-loop-pred
invariant-loop-pred l = fold (lower_of l.safe) 0 l.preds ≡ fold (lower_of l.safe) l.found (drop l.pred-index l.preds)
