use Rattle.std.proofs.Common.{refl}
use Rattle.ap_lexemes.specs.Lexemes.{lexeme_of}
use Rattle.literal_parse.proofs.cursor.Cursor.quoted.Goals as goal

pub returns-in-Some : goal.returns-in-Some
returns-in-Some c = (record { token = lexeme_of c.in-Some.token; is = c.in-Some.ensures.0; kind = c.in-Some.ensures.1 }, refl, c.in-Some.token.quoted c.in-Some.ensures.1)
