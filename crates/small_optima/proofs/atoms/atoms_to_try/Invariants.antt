use Rattle.std.proofs.Common.{[], take}
use Rattle.std.specs.List.{filter_map, flat_map}
use Rattle.ap_eval.specs.Reduct.{rule_of}
use Rattle.small_optima.specs.Adds.{Adds}
use Rattle.small_optima.specs.Atoms.{rule_names}
use Rattle.small_optima.proofs.atoms.atoms_to_try.Given as goal

abbrev pub invariant-loop-statement : goal.invariant-loop-statement
invariant-loop-statement l = Adds [] (flat_map rule_names (filter_map rule_of (take l.statement-index l.statement-items))) l.atoms.names.keys
