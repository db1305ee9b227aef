use Rattle.std.proofs.Common.{length, ◌≤◌}
use Rattle.pref_parse.proofs.ElementLemmas.{Ranking}
use Rattle.pref_parse.proofs.elements.read_ranks.Given as goal

abbrev pub invariant-signs : goal.invariant-signs
invariant-signs l = record { shorter : length l.tokens ≤ length l.initial.tokens; so_far : Ranking l.initial.tokens l.tokens l.initial.ranks.items l.ranks.items }

abbrev pub decreases-signs : goal.decreases-signs
decreases-signs l = length l.tokens
