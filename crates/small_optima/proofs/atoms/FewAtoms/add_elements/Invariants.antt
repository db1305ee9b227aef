use Rattle.std.proofs.Common.{map, take}
use Rattle.ap_eval.specs.Reduct.{element_name}
use Rattle.small_optima.specs.Adds.{Adds}
use Rattle.small_optima.proofs.atoms.FewAtoms.add_elements.Given as goal

abbrev pub invariant-loop-element : goal.invariant-loop-element
invariant-loop-element l = Adds l.initial.self.names.keys (map element_name (take l.element-index l.elements)) l.self.names.keys
