use Rattle.std.proofs.Common.{map, take}
use Rattle.ap_eval.specs.Reduct.{literal_of}
use Rattle.small_optima.specs.Adds.{Adds}
use Rattle.small_optima.specs.Atoms.{literal_name}
use Rattle.small_optima.proofs.atoms.FewAtoms.add_body.Given as goal

abbrev pub invariant-loop-item : goal.invariant-loop-item
invariant-loop-item l = Adds l.initial.self.names.keys (map literal_name (map literal_of (take l.item-index l.body))) l.self.names.keys
