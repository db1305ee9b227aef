use Rattle.ap_parse.proofs.RuleLemmas.{body_absent, body_present}
use Rattle.ap_parse.proofs.rules.read_optional_body.Goals as goal

pub returns-then-eat-clause-read : goal.returns-then-eat-clause-read
returns-then-eat-clause-read c = body_present c.if-eat.ensures c.read_body.ensures.read

pub returns-else-eat-clause-read : goal.returns-else-eat-clause-read
returns-else-eat-clause-read c = body_absent c.if-eat.ensures c.new.ensures
