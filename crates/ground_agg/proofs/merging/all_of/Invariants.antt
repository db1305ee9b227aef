use Rattle.std.proofs.Common.{◌≡◌, map, take}
use Rattle.ground_agg.proofs.merging.all_of.Given as goal

abbrev pub invariant-loop-pair : goal.invariant-loop-pair
invariant-loop-pair l = map (λ p. p.now) l.pairs.items ≡ take l.pair-index l.found
