use Rattle.grammar.specs.Takes.{Fails}
use Rattle.literal_parse.proofs.Steps.{exit}
use Rattle.ap_parse.proofs.ChoiceLemmas.{element_condition_fails, element_read}
use Rattle.ap_parse.proofs.choices.read_element.Goals as goal

pub returns-in_err-atom-clause-read : goal.returns-in_err-atom-clause-read
returns-in_err-atom-clause-read c = exit c.in_err-atom.ensures.read c.from_residual.ensures.1 (λ f. Fails.call (Fails.first f))

pub returns-in_err-condition-clause-read : goal.returns-in_err-condition-clause-read
returns-in_err-condition-clause-read c = exit c.in_err-condition.ensures.read c.from_residual-in_err-condition.ensures.1 (element_condition_fails c.in_ok-atom.ensures.read)

pub returns-clause-read : goal.returns-clause-read
returns-clause-read c = element_read c.in_ok-atom.ensures.read c.in_ok-condition.ensures.read
