use Rattle.loop_nogoods.specs.declared.founding.Founding.{Founding}
use Rattle.loop_nogoods.proofs.StepLemmas.{tended_kept}
use Rattle.loop_nogoods.proofs.FinishLemmas.{begun_fit, begun_settled, begun_tended, finished}
use Rattle.loop_nogoods.proofs.founding.Founding.run.Goals as goal

pub settle_atoms-requires-clause-tended : goal.settle_atoms-requires-clause-tended
settle_atoms-requires-clause-tended c = begun_tended c.args.t.now c.args.block c.args.a.now c.begin.new.self c.in_ok-begin.ensures

pub settle_atoms-requires-clause-fit : goal.settle_atoms-requires-clause-fit
settle_atoms-requires-clause-fit c = begun_fit c.args.t.now c.args.block c.args.a.now c.begin.new.self c.in_ok-begin.ensures

pub drain-requires-clause-tended : goal.drain-requires-clause-tended
drain-requires-clause-tended c =
    let s : Founding = c.begin.new.self in
    tended_kept c.args.t.now s c.settle_atoms.new.self c.in_ok-settle_atoms.ensures.step (begun_tended c.args.t.now c.args.block c.args.a.now s c.in_ok-begin.ensures)

pub returns : goal.returns
returns c =
    let s : Founding = c.begin.new.self in
    finished c.args.t.now c.args.block c.args.a.now s c.in_ok-begin.ensures c.settle_atoms.new.self c.drain.new.self c.in_ok-settle_atoms.ensures.step
    (begun_settled c.args.t.now c.args.block c.args.a.now s c.in_ok-begin.ensures c.settle_atoms.new.self c.atoms.result.now c.atoms.ensures c.in_ok-settle_atoms.ensures)
    c.in_ok-settle_atoms.ensures.sound c.in_ok-drain.ensures.drains c.in_ok-drain.ensures.none
