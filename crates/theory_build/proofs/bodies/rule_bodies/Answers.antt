use Rattle.std.proofs.Common.{◌∙◌, refl}
use Rattle.theory_build.specs.Bodies.{rule_bodies}
use Rattle.theory_build.proofs.AscendingLemmas.{ascending_same}
use Rattle.theory_build.proofs.OrderLemmas.{lits_order}
use Rattle.theory_build.proofs.SortLemmas.{ascending_from_sort}
use Rattle.theory_build.proofs.bodies.rule_bodies.Goals as goal

pub returns : goal.returns
unfolding rule_bodies
returns c =
    ascending_from_sort lits_order (λ x y. refl) c.in_ok-bodies.bodies.items c.sort.new.self.items c.dedup.new.self.items c.sort.ensures.permutation
    c.in_ok-sort.ensures.sorted c.dedup.ensures.filtered
    ∙ ascending_same lits_order c.in_ok-bodies.bodies.items _ c.in_ok-bodies.ensures
