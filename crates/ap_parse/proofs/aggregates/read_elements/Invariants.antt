use Rattle.std.proofs.Common.{length, ◌≤◌}
use Rattle.ap_grammar.specs.Values.{as_agg_element}
use Rattle.literal_parse.proofs.Collects.{Collects}
use Rattle.ap_parse.proofs.AggregateLemmas.{ElementItem}
use Rattle.ap_parse.proofs.aggregates.read_elements.Given as goal

abbrev pub invariant-semicolons : goal.invariant-semicolons
invariant-semicolons l = record { shorter : length l.tokens ≤ length l.initial.tokens; so_far : Collects as_agg_element ElementItem l.initial.tokens l.tokens l.initial.elements.items l.elements.items }

abbrev pub decreases-semicolons : goal.decreases-semicolons
decreases-semicolons l = length l.tokens
