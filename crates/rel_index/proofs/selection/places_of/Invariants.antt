use Rattle.std.proofs.Common.{◌≡◌, ◌++◌, map, length, take, drop}
use Rattle.rel_index.proofs.selection.places_of.Given as goal

abbrev pub invariant-loop-at : goal.invariant-loop-at
invariant-loop-at g l = (map (λ b. b.0) l.bound ≡ take l.at l.places ++ map (λ b. b.0) (drop l.at l.bound)) × (length l.places ≡ length l.bound)
