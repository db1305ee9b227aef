use Rattle.std.proofs.Common.{◌≡◌, drop}
use Rattle.std.specs.List.{list_all}
use Rattle.ap_bindings.specs.Unsafe.{definite_by}
use Rattle.ap_bindings.proofs.aggregates.are_definite.Given as goal

abbrev pub invariant-loop-signature : goal.invariant-loop-signature
invariant-loop-signature l = list_all (definite_by l.safe) l.signatures ≡ list_all (definite_by l.safe) (drop l.signature-index l.signatures)
