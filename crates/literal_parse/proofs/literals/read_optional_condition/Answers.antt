use Rattle.literal_parse.proofs.LiteralLemmas.{condition_present, condition_absent}
use Rattle.literal_parse.proofs.literals.read_optional_condition.Goals as goal

pub returns-then-sees-clause-read : goal.returns-then-sees-clause-read
returns-then-sees-clause-read c = condition_present c.if-sees.ensures c.read_condition.ensures.read

pub returns-else-sees-clause-read : goal.returns-else-sees-clause-read
returns-else-sees-clause-read c = condition_absent c.if-sees.ensures c.new.ensures
