use Rattle.std.proofs.Common.{◌+ℤ◌, ◌≡◌, ℕ, ℤ, List, pos, get_or, ap₂, ◌∙◌, rules, w64}
use Rattle.std.proofs.lemmas.List.{get_or_default}
use Rattle.std.proofs.lemmas.Int.{to_z-of_z}
use Rattle.std.specs.Prelude.{FitsSigned}
use Rattle.theory_form.specs.declared.literals.Var.{Var}
use Rattle.agg_nogoods.specs.Ends.{least_share, greatest_share}
use Rattle.agg_nogoods.proofs.EndSteps.{least_step, greatest_step, small_least_step, small_greatest_step}
use Rattle.agg_nogoods.proofs.ends.ends_of.Goals as goal

pub loop-weight-preserved : goal.loop-weight-preserved
loop-weight-preserved g c =
    let k = g.K.Known.known c.args.known.now in
    let ts : List (ℤ × Var) = c.args.terms.now in
    let i : ℕ = c.loop-weight.weight-index in
    let t : ℤ × Var = get_or ts i (pos 0, record { 0 = 0 }) in
    let same : get_or ts i t ≡ t = get_or_default ts i t (pos 0, record { 0 = 0 }) c.loop-weight-test.true in
    let fits : FitsSigned w64 t.0 = search rules in
    let least : c.with_term-ends.result.least ≡ c.loop-weight.ends.least +ℤ least_share (k t.1.0) t.0 =
    c.with_term-ends.ensures.least ∙ ap₂ (λ o w. c.loop-weight.ends.least +ℤ least_share o w) c.value.ensures (to_z-of_z w64 t.0 fits) in
    let greatest : c.with_term-ends.result.greatest ≡ c.loop-weight.ends.greatest +ℤ greatest_share (k t.1.0) t.0 =
    c.with_term-ends.ensures.greatest ∙ ap₂ (λ o w. c.loop-weight.ends.greatest +ℤ greatest_share o w) c.value.ensures (to_z-of_z w64 t.0 fits) in
    record {
      least_is = least_step k ts i t c.loop-weight-test.true same c.loop-weight.ends.least c.with_term-ends.result.least least c.loop-weight.invariant.least_is;
      greatest_is = greatest_step k ts i t c.loop-weight-test.true same c.loop-weight.ends.greatest c.with_term-ends.result.greatest greatest c.loop-weight.invariant.greatest_is;
      small_least = small_least_step k ts i t c.loop-weight-test.true same c.loop-weight.ends.least c.with_term-ends.result.least _ least c.loop-weight.invariant.small_least;
      small_greatest = small_greatest_step k ts i t c.loop-weight-test.true same c.loop-weight.ends.greatest c.with_term-ends.result.greatest _ greatest c.loop-weight.invariant.small_greatest;
    }
