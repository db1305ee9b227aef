use Rattle.pref_parse.proofs.ElementLemmas.{domain_none, domain_reads}
use Rattle.pref_parse.proofs.elements.read_domain.Goals as goal

pub returns-then-not-eat-clause-read : goal.returns-then-not-eat-clause-read
returns-then-not-eat-clause-read c = domain_none c.if-not-eat.ensures c.new.ensures

pub returns-clause-read : goal.returns-clause-read
returns-clause-read c = domain_reads c.if-not-eat.ensures c.read_literals.ensures.read
