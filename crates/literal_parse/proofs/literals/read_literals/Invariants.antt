use Rattle.std.proofs.Common.{length, ◌≤◌}
use Rattle.ap_grammar.specs.Values.{as_literal}
use Rattle.literal_parse.proofs.Collects.{Collects}
use Rattle.literal_parse.proofs.LiteralLemmas.{LiteralItem}
use Rattle.literal_parse.proofs.literals.read_literals.Given as goal

abbrev pub invariant-commas : goal.invariant-commas
invariant-commas l = record { shorter : length l.tokens ≤ length l.initial.tokens; so_far : Collects as_literal LiteralItem l.initial.tokens l.tokens l.initial.literals.items l.literals.items }

abbrev pub decreases-commas : goal.decreases-commas
decreases-commas l = length l.tokens
