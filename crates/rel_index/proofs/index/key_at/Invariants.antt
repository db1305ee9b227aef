use Rattle.std.proofs.Common.{◌≡◌, ◌++◌, length, take, drop}
use Rattle.rel_index.specs.Keys.{key_of}
use Rattle.rel_index.proofs.index.key_at.Given as goal

abbrev pub invariant-loop-at : goal.invariant-loop-at
invariant-loop-at g l = (key_of l.places l.row ≡ take l.at l.key ++ key_of (drop l.at l.places) l.row) × (length l.key ≡ length l.places)
