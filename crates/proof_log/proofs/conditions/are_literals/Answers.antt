use Rattle.std.proofs.Common.{sym, ◌∙◌}
use Rattle.proof_log.proofs.ConditionLemmas.{consistent_from, consistent_so}
use Rattle.proof_log.proofs.conditions.are_literals.Goals as goal

pub returns-then-are_literals_numbered : goal.returns-then-are_literals_numbered
returns-then-are_literals_numbered c =
    let lits = c.args.c.now in
    let numbers = rw c.lits-lits.ensures.literals at (c.are_literals_numbered.ensures.0 c.if-are_literals_numbered.true) in
    let lacks = rw c.lits-lits.ensures.literals at c.lacks_opposites.ensures in (
      λ h. record { numbers = numbers; ascending = c.lits-lits.ensures.ascending; consistent = consistent_from lits (sym lacks ∙ h) },
      λ h. lacks ∙ consistent_so lits h.consistent,
    )
