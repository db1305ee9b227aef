use Rattle.join_search.proofs.MatchLemmas.{given, place_tested}
use Rattle.join_search.proofs.matching.bind.Goals as goal

pub returns-in-None : goal.returns-in-None
returns-in-None c = given c.args.terms.now c.args.place c.args.id c.args.binding.now c.requires.place c.in-None.is c.requires.id c.requires.binding

pub returns-in-Some : goal.returns-in-Some
returns-in-Some c = place_tested c.args.terms.now c.args.place c.args.id c.in-Some.known c.args.binding.now c.is_same.result c.in-Some.is c.is_same.ensures c.requires.binding
