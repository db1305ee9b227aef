use Rattle.theory_form.proofs.OrderLemmas.{ascending_from_dedup, same_from_dedup}
use Rattle.loop_nogoods.proofs.externals.sorted.Goals as goal

pub returns-clause-ascending : goal.returns-clause-ascending
returns-clause-ascending c = ascending_from_dedup c.sort.new.self.items c.dedup.new.self.items c.in_ok-sort.ensures.sorted c.dedup.ensures.filtered

pub returns-clause-same : goal.returns-clause-same
returns-clause-same c = same_from_dedup c.args.lits.items c.sort.new.self.items c.dedup.new.self.items c.sort.ensures.permutation c.dedup.ensures.filtered
