use Rattle.std.proofs.Common.{◌≡◌, map, drop}
use Rattle.rel_index.specs.Keys.{is_same_key, key_of}
use Rattle.rel_index.proofs.selection.has_members.Given as goal

abbrev pub invariant-loop-place : goal.invariant-loop-place
invariant-loop-place l =
    is_same_key (key_of (map (λ b. b.0) l.bound) l.row) (map (λ b. b.1) l.bound)
    ≡ is_same_key (key_of (map (λ b. b.0) (drop l.place-index l.bound)) l.row) (map (λ b. b.1) (drop l.place-index l.bound))
