use Rattle.std.proofs.Common.{length, ◌≤◌, ◌+◌, ◌*◌}
use Rattle.ap_grammar.specs.Values.{as_term}
use Rattle.ap_grammar.specs.Grammar.{Name}
use Rattle.ap_grammar.specs.Factored.{factor, summand}
use Rattle.literal_parse.proofs.Collects.{Collects, Folds}
use Rattle.literal_parse.proofs.Primaries.{TermItem}
use Rattle.literal_parse.proofs.terms.+terms.Given as goal

-- each token is worth more than all the calls that read no token
abbrev pub decreases-read_group : goal.decreases-read_group
decreases-read_group l = 9 * length l.tokens.now + 8

abbrev pub decreases-read_tuple : goal.decreases-read_tuple
decreases-read_tuple l = 9 * length l.tokens.now + 7

abbrev pub decreases-read_terms : goal.decreases-read_terms
decreases-read_terms l = 9 * length l.tokens.now + 6

abbrev pub decreases-read_term : goal.decreases-read_term
decreases-read_term l = 9 * length l.tokens.now + 5

abbrev pub decreases-read_sum : goal.decreases-read_sum
decreases-read_sum l = 9 * length l.tokens.now + 4

abbrev pub decreases-read_product : goal.decreases-read_product
decreases-read_product l = 9 * length l.tokens.now + 3

abbrev pub decreases-read_unary : goal.decreases-read_unary
decreases-read_unary l = 9 * length l.tokens.now + 2

abbrev pub decreases-read_primary : goal.decreases-read_primary
decreases-read_primary l = 9 * length l.tokens.now + 1

abbrev pub decreases-read_arguments : goal.decreases-read_arguments
decreases-read_arguments l = 9 * length l.tokens.now

abbrev pub invariant-read_sum-signs : goal.invariant-read_sum-signs
invariant-read_sum-signs l = record { shorter : length l.tokens ≤ length l.initial.tokens; so_far : Folds Name.Sum summand l.initial.tokens l.tokens l.initial.sum l.sum }

abbrev pub decreases-read_sum-signs : goal.decreases-read_sum-signs
decreases-read_sum-signs l = length l.tokens

abbrev pub invariant-read_product-signs : goal.invariant-read_product-signs
invariant-read_product-signs l = record { shorter : length l.tokens ≤ length l.initial.tokens; so_far : Folds Name.Product factor l.initial.tokens l.tokens l.initial.product l.product }

abbrev pub decreases-read_product-signs : goal.decreases-read_product-signs
decreases-read_product-signs l = length l.tokens

abbrev pub invariant-read_terms-commas : goal.invariant-read_terms-commas
invariant-read_terms-commas l = record { shorter : length l.tokens ≤ length l.initial.tokens; so_far : Collects as_term TermItem l.initial.tokens l.tokens l.initial.terms.items l.terms.items }

abbrev pub decreases-read_terms-commas : goal.decreases-read_terms-commas
decreases-read_terms-commas l = length l.tokens
