use Rattle.std.proofs.Common.{◌≡◌, map, take}
use Rattle.rel_index.proofs.index.Index.from_sorted.Given as goal

abbrev pub invariant-loop-key : goal.invariant-loop-key
invariant-loop-key g l = (l.keys.items ≡ map (λ e. e.0) (take l.key-index l.entries)) × (l.places.items ≡ map (λ e. e.1) (take l.key-index l.entries))
