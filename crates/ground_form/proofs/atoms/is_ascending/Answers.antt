use Rattle.std.proofs.Common.{arith, refl}
use Rattle.sets.proofs.ListLemmas.{ascending_by_neighbours}
use Rattle.ground_form.specs.declared.atoms.AtomId.{AtomId}
use Rattle.ground_form.proofs.atoms.is_ascending.Goals as goal

pub returns : goal.returns
returns c =
    let past = c.loop-place-test.false in (
      λ t. ascending_by_neighbours (λ (id : AtomId). id.0) c.args.ids.now (λ k d lt. c.loop-place.invariant k d (omega (arith, past))),
      λ up. refl,
    )
