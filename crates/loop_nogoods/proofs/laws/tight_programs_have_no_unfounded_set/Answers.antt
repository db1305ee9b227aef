use Rattle.loop_nogoods.proofs.TightLemmas.{supported_from_clauses, tight_has_none}
use Rattle.loop_nogoods.proofs.laws.tight_programs_have_no_unfounded_set.Goals as goal

pub returns-clause-none : goal.returns-clause-none
returns-clause-none c = tight_has_none

pub returns-clause-supported : goal.returns-clause-supported
returns-clause-supported c = supported_from_clauses
