use Rattle.std.proofs.Common.{◌<◌, All, subst, sym, arith}
use Rattle.std.proofs.lemmas.List.Elements.{All-map}
use Rattle.rel_index.specs.Keys.{AreDistinct}
use Rattle.rel_index.proofs.selection.select_indexed.Goals as goal

pub build-requires : goal.build-requires
build-requires g c = (
  omega (arith, c.requires.few),
  (
    omega arith,
    (
      omega (arith, c.requires.few),
      (
        subst (All (λ p. p < c.args.relation.now.arity)) (sym c.places_of.ensures) (All-map (λ p. p < c.args.relation.now.arity) (λ b. b.0) c.args.bound.now c.requires.within),
        subst AreDistinct (sym c.places_of.ensures) c.requires.distinct,
      ),
    ),
  ),
)
