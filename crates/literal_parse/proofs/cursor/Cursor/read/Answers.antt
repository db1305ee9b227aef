use Rattle.std.proofs.Common.{refl}
use Rattle.literal_parse.proofs.Held.{lacks}
use Rattle.literal_parse.proofs.cursor.Cursor.read.Goals as goal

pub returns-else-eq : goal.returns-else-eq
returns-else-eq c = (refl, lacks c.self.inside.next c.self.view_is c.self.invariant c.in-Some.token c.in-Some.is c.args.wanted c.eq.result c.eq.ensures c.if-eq.false)
