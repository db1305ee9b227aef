use Rattle.std.proofs.Common.{length, ◌≤◌}
use Rattle.ap_grammar.specs.Factored.{factor}
use Rattle.pref_parse.proofs.OperatorLemmas.{Operating}
use Rattle.pref_parse.proofs.operators.read_factors.Given as goal

abbrev pub invariant-signs : goal.invariant-signs
invariant-signs l = record { shorter : length l.tokens ≤ length l.initial.tokens; so_far : Operating factor l.initial.tokens l.tokens l.initial.product l.product }

abbrev pub decreases-signs : goal.decreases-signs
decreases-signs l = length l.tokens
