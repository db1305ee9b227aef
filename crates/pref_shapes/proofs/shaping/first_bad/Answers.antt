-- An element is bad, or is passed over.
use Rattle.std.proofs.Common.{◌+◌, None, arith, subst, sym}
use Rattle.std.proofs.Math.ListN.{drop_of_length-le}
use Rattle.pref_shapes.specs.Shapes.{IsFirstBad}
use Rattle.pref_shapes.specs.Shapes.IsFirstBad.{none}
use Rattle.pref_shapes.proofs.ShapeLemmas.{bad_here, good_here, not_both}
use Rattle.pref_shapes.proofs.shaping.first_bad.Goals as goal

pub returns-then-not-is_good : goal.returns-then-not-is_good
returns-then-not-is_good c =
    bad_here c.args.kind c.args.elements.now c.loop-index.index c.index-elements-index.result c.loop-index-test.true c.index-elements-index.is c.loop-index.invariant
    (λ g. not_both c.is_good.result c.if-not-is_good.true (c.is_good.ensures.1 g))

pub loop-index-preserved : goal.loop-index-preserved
loop-index-preserved c =
    good_here c.args.kind c.args.elements.now c.loop-index.index c.index-elements-index.result c.loop-index-test.true c.index-elements-index.is c.loop-index.invariant
    (c.is_good.ensures.0 c.if-not-is_good.false)

pub returns : goal.returns
returns c = c.loop-index.invariant None (subst (λ es. IsFirstBad c.args.kind (c.loop-index.index + 1) es None) (sym (drop_of_length-le c.args.elements.now (omega arith))) none)
