use Rattle.std.proofs.Common.{take, map}
use Rattle.ap_pieces.specs.Pieces.{rule_source}
use Rattle.ap_bindings.specs.Unsafe.{definite_by, IsFirstUnsafe}
use Rattle.ap_bindings.proofs.sources.rules_fault.Given as goal

abbrev pub invariant-loop-rule : goal.invariant-loop-rule
invariant-loop-rule l = IsFirstUnsafe (definite_by l.safe) (map rule_source (take l.rule-index l.rules)) l.first
