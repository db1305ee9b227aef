use Rattle.rel_index.proofs.RowLemmas.{counted}
use Rattle.rel_index.proofs.relation.Relation.len.Goals as goal

pub returns : goal.returns
returns c = counted c.self.inside.arity c.self.inside.count c.self.inside.ids.items c.args.self.now c.self.view_is
