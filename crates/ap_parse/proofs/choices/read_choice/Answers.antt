use Rattle.grammar.specs.Takes.{Fails}
use Rattle.literal_parse.proofs.Steps.{exit}
use Rattle.ap_parse.proofs.ChoiceLemmas.{right_fails, choice_read}
use Rattle.ap_parse.proofs.choices.read_choice.Goals as goal

pub returns-in_err-elements-clause-read : goal.returns-in_err-elements-clause-read
returns-in_err-elements-clause-read c = exit c.in_err-elements.ensures.read c.from_residual.ensures.1 (λ f. Fails.first f)

pub returns-in_err-right-clause-read : goal.returns-in_err-right-clause-read
returns-in_err-right-clause-read c = exit c.in_err-right.ensures.read c.from_residual-in_err-right.ensures.1 (right_fails c.in_ok-elements.ensures.read)

pub returns-clause-read : goal.returns-clause-read
returns-clause-read c = rw c.in_ok-elements-2.ensures (choice_read c.in_ok-elements.ensures.read c.args.left c.in_ok-right.ensures.read)
