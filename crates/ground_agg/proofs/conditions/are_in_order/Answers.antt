use Rattle.std.proofs.Common.{arith, refl}
use Rattle.sets.specs.Literals.{literal_place}
use Rattle.sets.proofs.ListLemmas.{ascending_by_neighbours}
use Rattle.ground_agg.proofs.conditions.are_in_order.Goals as goal

pub returns : goal.returns
returns c =
    let past = c.loop-place-test.false in (
      λ t. ascending_by_neighbours literal_place c.args.literals.now (λ k d lt. c.loop-place.invariant k d (omega (arith, past))),
      λ up. refl,
    )
