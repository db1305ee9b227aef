use Rattle.std.proofs.Common.{All, take_all, subst, refl}
use Rattle.std.proofs.lemmas.List.Elements.{All-more}
use Rattle.ground_agg.specs.Gathered.{IsPairOf}
use Rattle.ground_agg.proofs.tests.are_of.Goals as goal

pub loop-pair-preserved : goal.loop-pair-preserved
loop-pair-preserved c =
    All-more (IsPairOf c.args.terms.now) c.args.pairs.now c.loop-pair.pair-index c.pair-item.result c.loop-pair-test.true c.loop-pair.invariant
    (subst (IsPairOf c.args.terms.now) c.pair-item.is (c.if-not-is_of.ensures refl))

pub returns : goal.returns
returns c = λ _. subst (All (IsPairOf c.args.terms.now)) (take_all c.loop-pair.pair-index c.args.pairs.now c.loop-pair-test.false) c.loop-pair.invariant
