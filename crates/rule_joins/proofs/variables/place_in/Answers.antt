use Rattle.std.proofs.Common.{sym}
use Rattle.rule_joins.proofs.MapLemmas.{found_at, absent_from}
use Rattle.rule_joins.proofs.variables.place_in.Goals as goal

pub returns-in-Some : goal.returns-in-Some
returns-in-Some c = found_at c.args.variables.now.entries c.args.name.now c.in-Some.place.now (sym c.in-Some.ensures.value)

pub returns-in-None : goal.returns-in-None
returns-in-None c = absent_from c.args.variables.now.entries c.args.name.now (sym c.in-None.ensures.value)
