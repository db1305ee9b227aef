use Rattle.std.proofs.Common.{◌≡◌, map}
use Rattle.std.specs.List.{range_with_len}
use Rattle.theory_build.specs.Atoms as spec
use Rattle.theory_build.proofs.atoms.atom_entries.Given as goal

abbrev pub invariant-loop-place : goal.invariant-loop-place
invariant-loop-place l = l.entries.items ≡ map (spec.atom_entry l.p l.g) (range_with_len 1 l.place)
