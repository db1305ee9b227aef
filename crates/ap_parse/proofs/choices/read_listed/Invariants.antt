use Rattle.std.proofs.Common.{length, ◌≤◌}
use Rattle.ap_parse.proofs.ChoiceLemmas.{Elements}
use Rattle.ap_parse.proofs.choices.read_listed.Given as goal

abbrev pub invariant-semicolons : goal.invariant-semicolons
invariant-semicolons l = record { shorter : length l.tokens ≤ length l.initial.tokens; so_far : Elements l.initial.tokens l.tokens l.initial.elements.items l.elements.items }

abbrev pub decreases-semicolons : goal.decreases-semicolons
decreases-semicolons l = length l.tokens
