use Rattle.grammar.specs.Takes.{Fails}
use Rattle.literal_parse.proofs.Steps.{exit}
use Rattle.pref_parse.proofs.MixedLemmas.{either_term_fails, either_term, either_formula, either_alone}
use Rattle.pref_parse.proofs.mixed.read_either_rest.Goals as goal

pub returns-in_err-term-clause-read : goal.returns-in_err-term-clause-read
returns-in_err-term-clause-read c = exit c.in_err-term.ensures.read c.from_residual-in_err-term.ensures.1 (either_term_fails c.if-begins_operator.ensures)

pub returns-then-begins_operator-clause-read : goal.returns-then-begins_operator-clause-read
returns-then-begins_operator-clause-read c = either_term c.args.atom c.if-begins_operator.ensures c.in_ok-first.ensures c.in_ok-term.ensures.read

pub returns-in_err-formula-clause-read : goal.returns-in_err-formula-clause-read
returns-in_err-formula-clause-read c = exit c.in_err-formula.ensures.read c.from_residual-in_err-formula.ensures.1 (λ f. Fails.right c.if-begins_operator.ensures f)

pub returns-then-begins_connective-clause-read : goal.returns-then-begins_connective-clause-read
returns-then-begins_connective-clause-read c = either_formula c.args.atom c.if-begins_operator.ensures c.if-begins_connective.ensures c.in_ok-formula.ensures.read

pub returns-clause-read : goal.returns-clause-read
returns-clause-read c = either_alone c.args.atom c.if-begins_operator.ensures c.if-begins_connective.ensures
