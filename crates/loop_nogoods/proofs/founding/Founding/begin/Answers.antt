use Rattle.std.proofs.Common.{refl}
use Rattle.loop_nogoods.proofs.FinishLemmas.{atoms_have_places, begun_from}
use Rattle.loop_nogoods.proofs.founding.Founding.begin.Goals as goal

pub mark_open-requires-clause-places : goal.mark_open-requires-clause-places
mark_open-requires-clause-places c =
    atoms_have_places c.args.t.now c.args.block _ c.atoms.result.now c.atoms.ensures c.in_ok-restart.ensures.atoms_places

pub returns : goal.returns
returns c =
    begun_from c.args.t.now c.args.block c.args.a.now c.restart.new.self _ c.atoms.result.now c.in_ok-restart.ensures c.atoms.ensures
    c.mark_open.ensures.places c.mark_open.ensures.marks refl refl refl
