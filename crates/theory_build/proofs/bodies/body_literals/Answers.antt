use Rattle.std.proofs.Common.{◌≡◌, ◌∙◌, ◌+◌, ap, subst, sym, arith, map, List, [], ◌∷◌, ◌++◌}
use Rattle.std.specs.List.{range_with_len}
use Rattle.std.specs.List.Sorted.{IsStrictlySortedBy}
use Rattle.std.proofs.lemmas.List.FromFn.{map-range_with_len_more}
use Rattle.theory_form.specs.declared.literals.Lit.{Lit}
use Rattle.theory_build.specs.Ascending.{lits_cmp, place_in}
use Rattle.theory_build.specs.Entries.{yes}
use Rattle.theory_build.specs.Bodies.{body_lit, body_lits, lits_of, rule_bodies, bodies_from}
use Rattle.theory_build.proofs.AscendingLemmas.{ascending_strict}
use Rattle.theory_build.proofs.OrderLemmas.{lits_order}
use Rattle.theory_build.proofs.BodyLemmas.{lits_at}
use Rattle.theory_build.proofs.bodies.body_literals.Goals as goal

pub body_literal-requires : goal.body_literal-requires
unfolding rule_bodies
body_literal-requires c = subst (IsStrictlySortedBy lits_cmp) (sym c.requires.bodies) (ascending_strict lits_order _)

pub loop-body-preserved : goal.loop-body-preserved
unfolding body_lit
loop-body-preserved c =
    let p = c.args.p.now in
    let g = c.args.g.now in
    let i = c.loop-body.body-index in
    let lits = lits_at p g c.args.guards.now c.bodies-body-items.result.now i c.body-item.result c.requires.guards c.bodies-body-items.ensures.value c.loop-body-test.true c.body-item.is in
    let literal : c.in_ok-literal.literal ≡ body_lit p g (i + 1) =
    c.in_ok-literal.ensures
    ∙ ap (λ from. yes (from + place_in c.args.bodies.now (body_lits p c.args.guards.now c.body-item.result))) c.requires.from
    ∙ ap (λ bodies. yes (bodies_from p g + place_in bodies (body_lits p c.args.guards.now c.body-item.result))) c.requires.bodies
    ∙ ap (λ x. yes (bodies_from p g + place_in (rule_bodies p g) x)) lits
    in
    c.in_ok-push.ensures.items
    ∙ ap (λ ls. ls ++ c.in_ok-literal.literal ∷ []) c.loop-body.invariant
    ∙ ap (λ l. map (body_lit p g) (range_with_len 1 i) ++ l ∷ []) literal
    ∙ sym (map-range_with_len_more (body_lit p g) 1 i (i + 1) (omega arith))
