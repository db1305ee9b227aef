use Rattle.std.proofs.Common.{◌≡◌, drop}
use Rattle.std.specs.List.{list_any}
use Rattle.ap_safety.specs.Tests.{meets_atom}
use Rattle.ap_safety.proofs.conditions.any_meets_atom.Given as goal

abbrev pub invariant-loop-element : goal.invariant-loop-element
invariant-loop-element l = list_any (meets_atom l.safe) l.elements ≡ list_any (meets_atom l.safe) (drop l.element-index l.elements)
