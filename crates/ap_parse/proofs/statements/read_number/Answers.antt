use Rattle.literal_parse.proofs.Steps.{not_there}
use Rattle.ap_parse.proofs.StatementLemmas.{number_read}
use Rattle.ap_parse.proofs.statements.read_number.Goals as goal

pub returns-in-Some-clause-read : goal.returns-in-Some-clause-read
returns-in-Some-clause-read c = number_read c.in-Some.ensures

pub returns-in-None-clause-read : goal.returns-in-None-clause-read
returns-in-None-clause-read c = not_there _ c.in-None.ensures
