use Rattle.std.proofs.Common.{rules, ◌<◌, ◌^◌, ◌∙◌, pos, ◌-ℤ◌, cond, sym, ap₂, ap, subst, w64, to_z, of_z}
use Rattle.std.specs.Prelude.{unsigned_abs, FitsSigned}
use Rattle.std.proofs.lemmas.Int.{to_z-of_z}
use Rattle.theory_form.specs.Truth.{value_of}
use Rattle.agg_nogoods.proofs.KeptLemmas.{slack_of_ends, small_greatest, small_least}
use Rattle.agg_nogoods.proofs.propagation.slack_by.Goals as goal

pub slack_at-requires-clause-small_least : goal.slack_at-requires-clause-small_least
slack_at-requires-clause-small_least c =
    let fits : FitsSigned w64 c.args.ends.least = search rules in
    subst (λ n. unsigned_abs n < 2 ^ 52) (sym (to_z-of_z w64 c.args.ends.least fits)) (small_least c.args.row.now (value_of c.args.a.now) c.args.ends c.requires.row c.requires.ends)

pub slack_at-requires-clause-small_greatest : goal.slack_at-requires-clause-small_greatest
slack_at-requires-clause-small_greatest c =
    let fits : FitsSigned w64 c.args.ends.greatest = search rules in
    subst (λ n. unsigned_abs n < 2 ^ 52) (sym (to_z-of_z w64 c.args.ends.greatest fits)) (small_greatest c.args.row.now (value_of c.args.a.now) c.args.ends c.requires.row c.requires.ends)

pub returns : goal.returns
returns c =
    let least_fits : FitsSigned w64 c.args.ends.least = search rules in
    let greatest_fits : FitsSigned w64 c.args.ends.greatest = search rules in
    let bound_fits : FitsSigned w64 c.args.row.now.bound = search rules in
    let fits : FitsSigned w64 c.slack_at.result = search rules in
    to_z-of_z w64 c.slack_at.result fits ∙ (c.slack_at.ensures
    ∙ (ap (λ b. cond c.args.holds (to_z w64 (of_z w64 c.args.ends.greatest) -ℤ b) ((b -ℤ pos 1) -ℤ to_z w64 (of_z w64 c.args.ends.least))) (to_z-of_z w64 c.args.row.now.bound bound_fits)
    ∙ (ap₂ (λ g l. cond c.args.holds (g -ℤ c.args.row.now.bound) ((c.args.row.now.bound -ℤ pos 1) -ℤ l)) (to_z-of_z w64 c.args.ends.greatest greatest_fits) (to_z-of_z w64 c.args.ends.least least_fits)
    ∙ slack_of_ends c.args.row.now c.args.a.now c.args.ends c.args.holds c.requires.own c.requires.ends)))
