use Rattle.std.proofs.Common.{◌≡◌, ◌++◌, drop}
use Rattle.rel_index.specs.Keys.{keyed_from}
use Rattle.rel_index.proofs.index.keyed_rows.Given as goal

abbrev pub invariant-loop-place : goal.invariant-loop-place
invariant-loop-place g l = keyed_from 0 l.places l.relation.rows ≡ l.entries.items ++ keyed_from l.place l.places (drop l.place l.relation.rows)
