use Rattle.theory_build.proofs.AscendingLemmas.{strict_unique}
use Rattle.theory_build.proofs.OrderLemmas.{lit_order, strict_from_ascending}
use Rattle.theory_law.proofs.growth.loop_clauses_are_one.Goals as goal

pub returns : goal.returns
returns k = λ t u v c d hc hd.
    strict_unique lit_order c d (strict_from_ascending c hc.ascending) (strict_from_ascending d hd.ascending)
    (record { there = λ l i. (hd.literals l).1 ((hc.literals l).0 i); back = λ l i. (hc.literals l).1 ((hd.literals l).0 i) })
