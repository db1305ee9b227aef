use Rattle.literal_parse.proofs.Held.{tells}
use Rattle.literal_parse.proofs.cursor.Cursor.sees.Goals as goal

pub returns-in-Some : goal.returns-in-Some
returns-in-Some c = tells c.self.inside.next c.self.view_is c.self.invariant c.in-Some.token c.in-Some.is c.args.wanted c.eq.result c.eq.ensures
