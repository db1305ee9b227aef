use Rattle.std.proofs.Common.{rules, ◌≤◌, ℕ, ℤ, pos, List, take, get_or, subst, take_all, All, w64}
use Rattle.std.specs.Prelude.{unsigned_abs, FitsSigned}
use Rattle.std.proofs.lemmas.List.Elements.{All-more}
use Rattle.agg_nogoods.proofs.KeptLemmas.{raised}
use Rattle.theory_form.specs.declared.literals.Var.{Var}
use Rattle.agg_nogoods.proofs.kept.heaviest.Goals as goal

pub returns : goal.returns
returns c = subst (All (λ t. unsigned_abs t.0 ≤ c.loop-weight.most)) (take_all c.loop-weight.weight-index c.args.terms.now c.loop-weight-test.false) c.loop-weight.invariant

pub loop-weight-preserved : goal.loop-weight-preserved
loop-weight-preserved c =
    let ts : List (ℤ × Var) = c.args.terms.now in
    let i : ℕ = c.loop-weight.weight-index in
    let d : ℤ × Var = (pos 0, record { 0 = 0 }) in
    let fits : FitsSigned w64 (get_or ts i d).0 = search rules in
    let most : c.loop-weight.most ≤ c.max-most.result = search (rules, c.max-most.ensures) in
    let here : unsigned_abs (get_or ts i d).0 ≤ c.max-most.result = search (rules, c.max-most.ensures, c.unsigned_abs.ensures.value) in
    All-more (λ t. unsigned_abs t.0 ≤ c.max-most.result) ts i d c.loop-weight-test.true (raised c.loop-weight.most c.max-most.result most (take i ts) c.loop-weight.invariant) here
