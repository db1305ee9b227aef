use Rattle.grammar.specs.Takes.{Fails}
use Rattle.literal_parse.proofs.Steps.{exit}
use Rattle.pref_parse.proofs.FormulaLemmas.{rest_reads}
use Rattle.pref_parse.proofs.formulas.read_formula_rest.Goals as goal

pub returns-in_err-joined-clause-read : goal.returns-in_err-joined-clause-read
returns-in_err-joined-clause-read c = exit c.in_err-joined.ensures.read c.from_residual.ensures.1 (λ f. Fails.first f)

pub returns-clause-read : goal.returns-clause-read
returns-clause-read c = rest_reads c.in_ok-joined.ensures.read c.read_disjuncts.ensures.read
