use Rattle.std.proofs.Common.{take, map}
use Rattle.ap_pieces.specs.Pieces.{element_source}
use Rattle.ap_bindings.specs.Unsafe.{definite_by, IsFirstUnsafe}
use Rattle.ap_bindings.proofs.sources.elements_fault.Given as goal

abbrev pub invariant-loop-element : goal.invariant-loop-element
invariant-loop-element l = IsFirstUnsafe (definite_by l.safe) (map (element_source l.fn.file) (take l.element-index l.elements)) l.first
