use Rattle.std.proofs.Common.{◌≡◌, drop}
use Rattle.std.specs.List.{filter_map}
use Rattle.small_optima.specs.Preferred.{preference_named, preference_of}
use Rattle.small_optima.proofs.preferred.preference_of.Given as goal

abbrev pub invariant-loop-statement : goal.invariant-loop-statement
invariant-loop-statement l = preference_named l.name (filter_map preference_of (drop l.statement-index l.statement-items)) ≡ preference_named l.name (filter_map preference_of l.statement-items)
