use Rattle.std.proofs.Common.{◌≡◌, ◌++◌, drop, flat_map}
use Rattle.pref_bind.specs.Naming.{element_names}
use Rattle.pref_bind.proofs.graph.names_among.Given as goal

abbrev pub invariant-loop-element : goal.invariant-loop-element
invariant-loop-element l = flat_map element_names l.elements ≡ l.names ++ flat_map element_names (drop l.element-index l.elements)
