use Rattle.std.proofs.Common.{sym, ◌∙◌}
use Rattle.std.proofs.lemmas.Result.{on_ok_weaker}
use Rattle.definite.specs.Rules.{marked}
use Rattle.ap_eval.proofs.ReductionLemmas.{head_added}
use Rattle.ap_eval.proofs.reduction.add_rule.Goals as goal

pub returns-in-Some : goal.returns-in-Some
returns-in-Some c = on_ok_weaker c.add_head.result
    (λ is atoms range. head_added c.args.kept.now (marked c.args.x.now) c.args.rules.now c.add_head.new.rules c.args.rule c.in-Some.head atoms range c.if-kept-place.true (sym c.in-Some.ensures) is)
    c.add_head.ensures
