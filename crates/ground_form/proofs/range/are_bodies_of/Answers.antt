use Rattle.std.proofs.Common.{sym, ◌∙◌, subst, take, refl}
use Rattle.std.proofs.lemmas.Bool.{false≢true}
use Rattle.std.proofs.lemmas.List.{take_all}
use Rattle.std.proofs.lemmas.List.Elements.{All-more, All-same}
use Rattle.ground_form.specs.Ranges.{IsBodyOf}
use Rattle.ground_form.proofs.range.are_bodies_of.Goals as goal

pub returns-then-not-is_body_of : goal.returns-then-not-is_body_of
returns-then-not-is_body_of c = (
  λ h. absurd (false≢true h),
  λ all.
      let here = subst (IsBodyOf c.args.atoms c.args.groups.now) (sym c.body-item.is) (all c.loop-body.body-index c.body-item.result c.loop-body-test.true) in
      absurd (false≢true (sym c.if-not-is_body_of.true ∙ c.is_body_of.ensures.1 here)),
)

pub loop-body-preserved : goal.loop-body-preserved
loop-body-preserved c =
    let P = IsBodyOf c.args.atoms c.args.groups.now in
    All-more P c.args.bodies.now c.loop-body.body-index c.body-item.result c.loop-body-test.true c.loop-body.invariant
    (subst P c.body-item.is (c.is_body_of.ensures.0 c.if-not-is_body_of.false))

pub returns : goal.returns
returns c = (
  λ _. All-same (IsBodyOf c.args.atoms c.args.groups.now) c.args.bodies.now (take c.loop-body.body-index c.args.bodies.now) (sym (take_all c.loop-body.body-index c.args.bodies.now c.loop-body-test.false)) c.loop-body.invariant,
  λ _. refl,
)
