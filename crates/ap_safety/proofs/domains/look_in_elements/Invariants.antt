use Rattle.std.proofs.Common.{◌≡◌, drop, map}
use Rattle.ap_safety.specs.Conditions.{element_domain}
use Rattle.ap_safety.specs.Tests.{first_domain}
use Rattle.ap_safety.proofs.domains.look_in_elements.Given as goal

abbrev pub invariant-loop-element : goal.invariant-loop-element
invariant-loop-element l = first_domain l.safe l.initial.first (map (element_domain l.file) l.elements) ≡ first_domain l.safe l.first (map (element_domain l.file) (drop l.element-index l.elements))
