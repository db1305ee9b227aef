use Rattle.literal_parse.proofs.Names.{name_read, name_lacking}
use Rattle.literal_parse.proofs.Steps.{no_memory}
use Rattle.literal_parse.proofs.cursor.Cursor.name.Goals as goal

pub returns-in_err-new-in-Some-clause-read : goal.returns-in_err-new-in-Some-clause-read
returns-in_err-new-in-Some-clause-read c = no_memory c.from_residual.ensures.1

pub returns-in_ok-new-in-Some-clause-read : goal.returns-in_ok-new-in-Some-clause-read
returns-in_ok-new-in-Some-clause-read c = name_read c.in-Some.ensures c.in_ok-new-in-Some.ensures

pub returns-in-None-clause-read : goal.returns-in-None-clause-read
returns-in-None-clause-read c = name_lacking c.in-None.ensures
