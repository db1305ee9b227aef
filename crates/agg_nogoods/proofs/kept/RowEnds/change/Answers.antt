use Rattle.std.proofs.Common.{rules, ◌<◌, ◌^◌, ℕ, ℤ, pos, ◌+ℤ◌, ◌-ℤ◌, List, get_or, refl, sym, ap, ap₂, ◌∙◌, subst, w64}
use Rattle.std.specs.Prelude.{unsigned_abs, FitsSigned}
use Rattle.std.proofs.lemmas.Int.{to_z-of_z}
use Rattle.theory_form.specs.declared.literals.Var.{Var}
use Rattle.agg_nogoods.specs.Ends.{least_share, greatest_share}
use Rattle.agg_nogoods.proofs.KeptLemmas.{changed_ends, greatest_small, least_small, small_of, weights, IsSmall}
use Rattle.agg_nogoods.proofs.kept.RowEnds.change.Goals as goal

pub with_change-ends-requires-clause-small_least : goal.with_change-ends-requires-clause-small_least
with_change-ends-requires-clause-small_least c =
    let (known, ends, is) = c.requires.ends in
    let row = c.args.row.now in
    let fits : FitsSigned w64 c.args.self.now.least = search rules in
    subst (λ n. unsigned_abs n < 2 ^ 52) (sym (to_z-of_z w64 c.args.self.now.least fits))
    (small_of row c.args.self.now.least c.requires.row (subst (λ n. IsSmall n (weights row.terms)) (sym ends.least) (least_small known row.terms)))

pub with_change-ends-requires-clause-small_greatest : goal.with_change-ends-requires-clause-small_greatest
with_change-ends-requires-clause-small_greatest c =
    let (known, ends, is) = c.requires.ends in
    let row = c.args.row.now in
    let fits : FitsSigned w64 c.args.self.now.greatest = search rules in
    subst (λ n. unsigned_abs n < 2 ^ 52) (sym (to_z-of_z w64 c.args.self.now.greatest fits))
    (small_of row c.args.self.now.greatest c.requires.row (subst (λ n. IsSmall n (weights row.terms)) (sym ends.greatest) (greatest_small known row.terms)))

pub returns : goal.returns
returns c =
    let i : ℕ = c.args.term in
    let d : ℤ × Var = (pos 0, record { 0 = 0 }) in
    let items : List (ℤ × Var) = c.as_slice.result.now in
    let weight_fits : FitsSigned w64 (get_or items i d).0 = search rules in
    let weight = to_z-of_z w64 (get_or items i d).0 weight_fits ∙ ap (λ (ts : List (ℤ × Var)). (get_or ts i d).0) c.as_slice.ensures in
    let least_fits : FitsSigned w64 c.args.self.now.least = search rules in
    let greatest_fits : FitsSigned w64 c.args.self.now.greatest = search rules in
    let new_least_fits : FitsSigned w64 c.with_change-ends.result.least = search rules in
    let new_greatest_fits : FitsSigned w64 c.with_change-ends.result.greatest = search rules in
    changed_ends c.args.row.now i c.args.from c.args.to c.args.self.now _ c.requires.row c.requires.term
    (to_z-of_z w64 c.with_change-ends.result.least new_least_fits ∙ (c.with_change-ends.ensures.least
    ∙ ap₂ (λ n w. n +ℤ (least_share c.args.to w -ℤ least_share c.args.from w)) (to_z-of_z w64 c.args.self.now.least least_fits) weight))
    (to_z-of_z w64 c.with_change-ends.result.greatest new_greatest_fits ∙ (c.with_change-ends.ensures.greatest
    ∙ ap₂ (λ n w. n +ℤ (greatest_share c.args.to w -ℤ greatest_share c.args.from w)) (to_z-of_z w64 c.args.self.now.greatest greatest_fits) weight)) refl
