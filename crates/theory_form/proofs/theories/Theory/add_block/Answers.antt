use Rattle.theory_form.proofs.TheoryLemmas.{HoldsTheory-block}
use Rattle.theory_form.proofs.theories.Theory.add_block.Goals as goal

pub invariant_of-self-2 : goal.invariant_of-self-2
invariant_of-self-2 c =
    let f = c.self.inside in
    rw (c.in_ok-push.ensures.items, c.new.ensures)
    (HoldsTheory-block f.variables.items f.clauses.items f.blocks.items f.reserved f.guard _ c.self.invariant)
