use Rattle.std.proofs.Common.{◌≡◌, ◌∙◌, ℕ, ◌+◌, sym, ap, subst, length, true, false, arith, List}
use Rattle.std.proofs.lemmas.Grind.{common_steps}
use Rattle.std.proofs.lemmas.List.Elements.{All-weaker}
use Rattle.ground_form.specs.declared.rules.GroundRule.{GroundRule}
use Rattle.ground_form.specs.Ranges.{IsNumberOf, IsRuleOf}
use Rattle.theory_form.specs.declared.literals.Lit.{Lit}
use Rattle.theory_build.specs.Bodies.{lits_of}
use Rattle.theory_build.proofs.BodyLemmas.{HasUsed, is_used, used_more, used_same, used_members, lits_at}
use Rattle.theory_build.proofs.bodies.used_lits.Goals as goal
use Rattle.theory_build.proofs.bodies.used_lits.Goals.{then-index+in_ok-lits+in_ok-push, else-index}

pub loop-place-preserved : goal.loop-place-preserved
loop-place-preserved c =
    let used = is_used c.args.g.now.rules in
    let lits = lits_of c.args.p.now c.args.g.now in
    let mark : c.index.result.now ≡ used (c.loop-place.place + 1) =
    grind (arith, common_steps, c.in_ok-used.ensures.each c.loop-place.place)
    in
    let more = λ (all : List (List Lit)). HasUsed used lits (c.loop-place.place + 1) all in
    elim c.if-index.branch [
      | then-index+in_ok-lits+in_ok-push w ↦
          let x_is : w.in_ok-lits.lits ≡ lits (c.loop-place.place + 1) =
          w.in_ok-lits.ensures
          ∙ lits_at c.args.p.now c.args.g.now c.args.guards.now c.bodies-body-items.result.now c.loop-place.place c.body-item.result c.requires c.bodies-body-items.ensures.value c.loop-place-test.true c.body-item.is
          in
          subst more (sym (ap (λ v. v.items) w.all-is ∙ w.in_ok-push.ensures.items))
          (used_more c.loop-place.place c.loop-place.all.items w.in_ok-lits.lits (sym mark ∙ w.if-index.true) x_is c.loop-place.invariant)
      | else-index w ↦
          subst more (sym (ap (λ v. v.items) w.all-is))
          (used_same c.loop-place.place c.loop-place.all.items (sym mark ∙ w.if-index.false) c.loop-place.invariant)
    ]

pub returns : goal.returns
returns c =
    let bodies = length c.args.g.now.bodies in
    let of_rule = λ (rule : GroundRule) (h : IsRuleOf (length c.args.g.now.atoms) bodies rule). h.body in
    let in_range = All-weaker (IsRuleOf (length c.args.g.now.atoms) bodies) (λ (rule : GroundRule). IsNumberOf bodies rule.body.0) of_rule c.args.g.now.rules c.bodies-body-items.ensures.in_range.rules in
    let end : c.loop-place.place ≡ bodies = let e = ap length c.bodies-body-items.ensures.value in omega arith in
    let all = subst (λ (i : ℕ). HasUsed (is_used c.args.g.now.rules) (lits_of c.args.p.now c.args.g.now) i c.loop-place.all.items) end c.loop-place.invariant in
    used_members c.args.g.now.rules bodies (lits_of c.args.p.now c.args.g.now) c.loop-place.all.items in_range all
