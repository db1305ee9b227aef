use Rattle.std.proofs.Common.{List, Bool, sym, subst}
use Rattle.std.specs.Prelude.{IsFalse}
use Rattle.loop_nogoods.specs.Marks.{marked}
use Rattle.loop_nogoods.proofs.StampLemmas.{resized_clear}
use Rattle.loop_nogoods.proofs.stamps.Stamps.restart.Goals as goal

pub returns-clause-clear : goal.returns-clause-clear
returns-clause-clear c = λ v.
    let s = c.self.inside in
    rw c.in_ok-resize.ensures.ok
    (resized_clear s.round s.stamps.items c.args.places c.self.invariant.first (λ w. subst (λ (m : List Bool). IsFalse (marked m w)) (sym c.self.view_is) (c.clear.ensures w)) v)
