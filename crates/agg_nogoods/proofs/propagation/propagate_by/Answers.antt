use Rattle.std.proofs.Common.{arith, rules, w64, ◌≤ℤ◌, pos, subst, sym}
use Rattle.std.specs.Prelude.{FitsSigned}
use Rattle.std.proofs.lemmas.Int.{ints, to_z-of_z}
use Rattle.agg_nogoods.specs.Known.{known_with}
use Rattle.agg_nogoods.specs.Slack.{slack}
use Rattle.agg_nogoods.proofs.AnswerLemmas.{found_holds, found_over}
use Rattle.agg_nogoods.proofs.KeptLemmas.{none_forced}
use Rattle.agg_nogoods.proofs.NoneLemmas.{settled_with}
use Rattle.agg_nogoods.proofs.propagation.propagate_by.Goals as goal

pub returns-then-is_quiet-clause-answer : goal.returns-then-is_quiet-clause-answer
returns-then-is_quiet-clause-answer c =
    let row = c.args.row.now in
    let known = known_with c.args.a.now row.var.0 c.in-Some.holds in
    let fits : FitsSigned w64 c.slack_by-slack.result = search rules in
    let quiet : pos c.args.ends.heaviest ≤ℤ slack known row c.in-Some.holds = subst (λ n. pos c.args.ends.heaviest ≤ℤ n) c.slack_by-slack.ensures
    (subst (λ n. pos c.args.ends.heaviest ≤ℤ n) (to_z-of_z w64 c.slack_by-slack.result fits) (c.is_quiet.ensures c.if-is_quiet.true)) in
    λ d i. settled_with row c.requires.row c.args.a.now d c.in-Some.holds (sym c.in-Some.ensures) (omega (arith, ints, quiet))
    (none_forced row known (slack known row c.in-Some.holds) c.args.ends.heaviest c.requires.ends.heaviest quiet) i

pub returns-else-is_quiet-clause-holds : goal.returns-else-is_quiet-clause-holds
returns-else-is_quiet-clause-holds c = found_holds c.args.row.now c.args.a.now c.propagate_terms.result c.propagate_terms.ensures.answer

pub returns-else-is_quiet-clause-over : goal.returns-else-is_quiet-clause-over
returns-else-is_quiet-clause-over c = found_over c.args.row.now c.propagate_terms.result c.propagate_terms.ensures.counts

pub returns-in-None-clause-holds : goal.returns-in-None-clause-holds
returns-in-None-clause-holds c = found_holds c.args.row.now c.args.a.now c.propagate_own.result c.propagate_own.ensures.answer

pub returns-in-None-clause-over : goal.returns-in-None-clause-over
returns-in-None-clause-over c = found_over c.args.row.now c.propagate_own.result c.propagate_own.ensures.counts
