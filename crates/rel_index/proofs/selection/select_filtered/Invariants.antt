use Rattle.std.proofs.Common.{◌≡◌, ◌++◌, map, drop}
use Rattle.rel_index.specs.Keys.{keyed_from, places_beside, rows_with}
use Rattle.rel_index.proofs.selection.select_filtered.Given as goal

abbrev pub invariant-loop-place : goal.invariant-loop-place
invariant-loop-place l =
    rows_with (map (λ b. b.0) l.bound) (map (λ b. b.1) l.bound) l.relation.rows
    ≡ l.found.items ++ places_beside (map (λ b. b.1) l.bound) (keyed_from l.place (map (λ b. b.0) l.bound) (drop l.place l.relation.rows))
