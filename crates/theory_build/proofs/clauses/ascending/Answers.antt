use Rattle.theory_form.specs.Order.{lit_ties}
use Rattle.theory_build.proofs.OrderLemmas.{lit_order}
use Rattle.theory_build.proofs.SortLemmas.{ascending_from_sort}
use Rattle.theory_build.proofs.clauses.ascending.Goals as goal

pub returns : goal.returns
returns c = ascending_from_sort lit_order lit_ties c.args.lits.items c.sort.new.self.items c.dedup.new.self.items c.sort.ensures.permutation c.in_ok-sort.ensures.sorted c.dedup.ensures.filtered
