use Rattle.std.proofs.Common.{All, take}
use Rattle.ground_agg.specs.Gathered.{IsPairOf}
use Rattle.ground_agg.proofs.tests.are_of.Given as goal

abbrev pub invariant-loop-pair : goal.invariant-loop-pair
invariant-loop-pair l = All (IsPairOf l.terms) (take l.pair-index l.pairs)
