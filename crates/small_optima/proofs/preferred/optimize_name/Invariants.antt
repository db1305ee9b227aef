use Rattle.std.proofs.Common.{◌≡◌, drop}
use Rattle.std.specs.List.{filter_map}
use Rattle.small_optima.specs.Preferred.{optimised_by}
use Rattle.small_optima.proofs.preferred.optimize_name.Given as goal

abbrev pub invariant-loop-statement : goal.invariant-loop-statement
invariant-loop-statement l = filter_map optimised_by (drop l.statement-index l.statement-items) ≡ filter_map optimised_by l.statement-items
