use Rattle.std.proofs.Common.{◌≡◌, ◌++◌, map, length, take, drop}
use Rattle.rel_index.proofs.selection.terms_of.Given as goal

abbrev pub invariant-loop-at : goal.invariant-loop-at
invariant-loop-at g l = (map (λ b. b.1) l.bound ≡ take l.at l.key ++ map (λ b. b.1) (drop l.at l.bound)) × (length l.key ≡ length l.bound)
