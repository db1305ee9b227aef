use Rattle.grammar.specs.Takes.{Fails}
use Rattle.literal_parse.proofs.Steps.{exit}
use Rattle.pref_parse.proofs.OperatorLemmas.{summands_of_rest_fail, rest_reads}
use Rattle.pref_parse.proofs.operators.read_term_rest.Goals as goal

pub returns-in_err-product-clause-read : goal.returns-in_err-product-clause-read
returns-in_err-product-clause-read c = exit c.in_err-product.ensures.read c.from_residual.ensures.1 (λ f. Fails.first f)

pub returns-in_err-sum-clause-read : goal.returns-in_err-sum-clause-read
returns-in_err-sum-clause-read c = exit c.in_err-sum.ensures.read c.from_residual-in_err-sum.ensures.1 (summands_of_rest_fail c.in_ok-product.ensures.read)

pub returns-clause-read : goal.returns-clause-read
returns-clause-read c = rest_reads c.in_ok-product.ensures.read c.in_ok-sum.ensures.read c.read_range.ensures.read
