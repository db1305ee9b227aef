use Rattle.literal_parse.proofs.cursor.Cursor.eat.Goals as goal

pub returns-in-Some : goal.returns-in-Some
returns-in-Some c = c.in-Some.ensures.0
