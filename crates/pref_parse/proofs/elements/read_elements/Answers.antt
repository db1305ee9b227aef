use Rattle.grammar.specs.Takes.{Fails}
use Rattle.literal_parse.proofs.Steps.{exit}
use Rattle.pref_parse.proofs.ElementLemmas.{braces_empty, braces_row_fails, braces_close_fails, braces_read}
use Rattle.pref_parse.proofs.elements.read_elements.Goals as goal

pub returns-in_err-expect-clause-read : goal.returns-in_err-expect-clause-read
returns-in_err-expect-clause-read c = exit c.in_err-expect.ensures.read c.from_residual.ensures.1 (λ f. Fails.first f)

pub returns-then-eat-clause-read : goal.returns-then-eat-clause-read
returns-then-eat-clause-read c = braces_empty c.in_ok-expect.ensures.read c.if-eat.ensures c.new.ensures

pub returns-in_err-elements-clause-read : goal.returns-in_err-elements-clause-read
returns-in_err-elements-clause-read c = exit c.in_err-elements.ensures.read c.from_residual-in_err-elements.ensures.1 (braces_row_fails c.in_ok-expect.ensures.read c.if-eat.ensures)

pub returns-in_err-expect-2-clause-read : goal.returns-in_err-expect-2-clause-read
returns-in_err-expect-2-clause-read c = exit c.in_err-expect-2.ensures.read c.from_residual-in_err-expect-2.ensures.1 (braces_close_fails c.in_ok-expect.ensures.read c.if-eat.ensures c.in_ok-elements.ensures.read)

pub returns-clause-read : goal.returns-clause-read
returns-clause-read c = braces_read c.in_ok-expect.ensures.read c.if-eat.ensures c.in_ok-elements.ensures.read c.in_ok-expect-2.ensures.read
