use Rattle.literal_parse.proofs.Names.{named_word, named_base, named_last}
use Rattle.literal_parse.proofs.cursor.Cursor.take_name.Goals as goal

pub returns-in-Some : goal.returns-in-Some
returns-in-Some c = named_word c.in-Some.name c.in-Some.ensures

pub returns-in-Some-take : goal.returns-in-Some-take
returns-in-Some-take c = named_base c.in-Some-take.name c.in_default.ensures c.in-Some-take.ensures

pub returns : goal.returns
returns c = named_last _ c.take-3.result c.in_default.ensures c.in_default-take.ensures c.take-3.ensures
