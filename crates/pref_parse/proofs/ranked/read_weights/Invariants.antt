use Rattle.std.proofs.Common.{length, ◌≤◌}
use Rattle.pref_parse.proofs.RankLemmas.{Weighing}
use Rattle.pref_parse.proofs.ranked.read_weights.Given as goal

abbrev pub invariant-commas : goal.invariant-commas
invariant-commas l = record { shorter : length l.tokens ≤ length l.initial.tokens; so_far : Weighing l.initial.tokens l.tokens l.initial.weights.items l.weights.items }

abbrev pub decreases-commas : goal.decreases-commas
decreases-commas l = length l.tokens
