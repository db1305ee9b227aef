use Rattle.std.proofs.Common.{◌<◌, ◌≤◌, ℕ, ℤ, pos, ◌≤ℤ◌, List, length, get_or, subst, take_all, ◌∙◌, to_z, of_z, w64, All, rules}
use Rattle.std.specs.Prelude.{unsigned_abs, FitsSigned}
use Rattle.std.proofs.lemmas.Int.{to_z-of_z}
use Rattle.std.proofs.lemmas.List.Elements.{All-more}
use Rattle.theory_form.specs.declared.literals.Var.{Var}
use Rattle.agg_nogoods.specs.Known.{known_with}
use Rattle.agg_nogoods.proofs.EndLemmas.{IsLight}
use Rattle.agg_nogoods.proofs.propagation.forced_literal.Goals as goal

pub loop-weight-preserved : goal.loop-weight-preserved
loop-weight-preserved c =
    let known = known_with c.args.a.now c.args.row.now.var.0 c.args.holds in
    let items : List (ℤ × Var) = c.as_slice-weight-items.result.now in
    let i : ℕ = c.loop-weight.weight-index in
    let d : ℤ × Var = (pos 0, record { 0 = 0 }) in
    let fits : FitsSigned w64 (get_or items i d).0 = search rules in
    let here : IsLight known (to_z w64 (of_z w64 c.args.slack)) (get_or items i d) =
    λ free. subst (λ w. pos (unsigned_abs w) ≤ℤ to_z w64 (of_z w64 c.args.slack)) (to_z-of_z w64 (get_or items i d).0 fits) (c.is_heavy.ensures.light c.if-is_heavy.false (c.value.ensures ∙ free)) in
    All-more (IsLight known (to_z w64 (of_z w64 c.args.slack))) c.args.row.now.terms i d (subst (λ ts. i < length ts) c.as_slice-weight-items.ensures c.loop-weight-test.true) c.loop-weight.invariant
    (subst (λ ts. IsLight known (to_z w64 (of_z w64 c.args.slack)) (get_or ts i d)) c.as_slice-weight-items.ensures here)

pub returns : goal.returns
returns c =
    let known = known_with c.args.a.now c.args.row.now.var.0 c.args.holds in
    let end = subst (λ ts. length ts ≤ c.loop-weight.weight-index) c.as_slice-weight-items.ensures c.loop-weight-test.false in
    subst (λ n. All (IsLight known n) c.args.row.now.terms) (to_z-of_z w64 c.args.slack c.ranges.slack)
    (subst (All (IsLight known (to_z w64 (of_z w64 c.args.slack)))) (take_all c.loop-weight.weight-index c.args.row.now.terms end) c.loop-weight.invariant)
