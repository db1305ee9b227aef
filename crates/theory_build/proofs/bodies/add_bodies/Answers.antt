use Rattle.theory_build.proofs.BodyLemmas.{bodies_more}
use Rattle.theory_build.proofs.bodies.add_bodies.Goals as goal

pub loop-body-preserved : goal.loop-body-preserved
loop-body-preserved c =
    bodies_more c.args.draft.now c.loop-body.draft c.add.new.self c.loop-body.yielded c.in-Some.body c.into_lits.result c.in_ok-v.v c.in_ok-body.field-0
    c.in_ok-v.ensures c.into_lits.ensures c.in_ok-body.ensures c.loop-body.invariant c.in_ok-add.ensures
