use Rattle.std.proofs.Common.{sym, ◌∙◌}
use Rattle.std.proofs.lemmas.Bool.{false_from_ne_true, false≢true}
use Rattle.loop_nogoods.specs.Marks.{marked}
use Rattle.loop_nogoods.proofs.StampLemmas.{begun_empty}
use Rattle.loop_nogoods.proofs.waits.begin.Goals as goal

pub returns-then-not-is_marked-clause-same : goal.returns-then-not-is_marked-clause-same
returns-then-not-is_marked-clause-same c =
    let off = false_from_ne_true (marked c.args.begun.now c.args.v.0) (λ on. false≢true (sym c.if-not-is_marked.true ∙ c.is_marked.ensures.1 on)) in
    rw c.set.ensures (begun_empty c.args.begun.now c.args.lists.now.items c.args.v.0 c.clear.new.self c.clear.ensures.items off c.requires.mark)
