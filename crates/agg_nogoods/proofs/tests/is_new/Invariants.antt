use Rattle.std.proofs.Common.{◌≢◌, All, take}
use Rattle.agg_nogoods.proofs.tests.is_new.Given as goal

abbrev pub invariant-loop-other : goal.invariant-loop-other
invariant-loop-other l = All (λ t. l.var ≢ t.1) (take l.other-index l.terms)
