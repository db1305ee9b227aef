use Rattle.small_optima.specs.Kept.{Kept}
use Rattle.small_optima.specs.Unbeaten.{IsUnbeatenIn}
use Rattle.small_optima.proofs.preferred.unbeaten_sets.Given as goal

abbrev pub invariant-loop-set : goal.invariant-loop-set
invariant-loop-set l = Kept (IsUnbeatenIn l.p l.fn.sets.items) l.yielded l.unbeaten.items
