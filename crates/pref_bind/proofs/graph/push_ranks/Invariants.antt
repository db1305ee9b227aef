use Rattle.std.proofs.Common.{◌≡◌, ◌++◌, drop, flat_map}
use Rattle.pref_bind.specs.Naming.{ranked_names}
use Rattle.pref_bind.proofs.graph.push_ranks.Given as goal

abbrev pub invariant-loop-ranked : goal.invariant-loop-ranked
invariant-loop-ranked l = l.initial.names ++ flat_map ranked_names l.ranks ≡ l.names ++ flat_map ranked_names (drop l.ranked-index l.ranks)
