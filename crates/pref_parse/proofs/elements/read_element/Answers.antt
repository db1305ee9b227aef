use Rattle.grammar.specs.Takes.{Fails}
use Rattle.literal_parse.proofs.Steps.{exit}
use Rattle.pref_parse.proofs.ElementLemmas.{element_given_fails, element_domain_fails, element_read}
use Rattle.pref_parse.proofs.elements.read_element.Goals as goal

pub returns-in_err-ranks-clause-read : goal.returns-in_err-ranks-clause-read
returns-in_err-ranks-clause-read c = exit c.in_err-ranks.ensures.read c.from_residual.ensures.1 (λ f. Fails.call (Fails.first f))

pub returns-in_err-given-clause-read : goal.returns-in_err-given-clause-read
returns-in_err-given-clause-read c = exit c.in_err-given.ensures.read c.from_residual-in_err-given.ensures.1 (element_given_fails c.in_ok-ranks.ensures.read)

pub returns-in_err-domain-clause-read : goal.returns-in_err-domain-clause-read
returns-in_err-domain-clause-read c = exit c.in_err-domain.ensures.read c.from_residual-in_err-domain.ensures.1 (element_domain_fails c.in_ok-ranks.ensures.read c.in_ok-given.ensures.read)

pub returns-clause-read : goal.returns-clause-read
returns-clause-read c = element_read c.in_ok-ranks.ensures.read c.in_ok-given.ensures.read c.place-place.result c.place-place.ensures c.in_ok-domain.ensures.read
