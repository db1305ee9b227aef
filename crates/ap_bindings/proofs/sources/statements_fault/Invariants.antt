use Rattle.std.proofs.Common.{take}
use Rattle.std.specs.Prelude.{flat_map}
use Rattle.ap_pieces.specs.Pieces.{statement_sources}
use Rattle.ap_bindings.specs.Unsafe.{definite_by, IsFirstUnsafe}
use Rattle.ap_bindings.proofs.sources.statements_fault.Given as goal

abbrev pub invariant-loop-statement : goal.invariant-loop-statement
invariant-loop-statement l = IsFirstUnsafe (definite_by l.safe) (flat_map statement_sources (take l.statement-index l.statements)) l.first
