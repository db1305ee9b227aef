use Rattle.std.proofs.Common.{refl, sym, ◌∙◌}
use Rattle.std.proofs.lemmas.Bool.{false_from_ne_true, false≢true}
use Rattle.loop_nogoods.specs.Marks.{marked}
use Rattle.loop_nogoods.proofs.StepLemmas.{step_found}
use Rattle.loop_nogoods.proofs.founding.Founding.found.Goals as goal

pub returns-in_ok-push-clause-step : goal.returns-in_ok-push-clause-step
returns-in_ok-push-clause-step c = λ t.
    let off = false_from_ne_true (marked c.args.self.now.founded c.args.v.0) (λ on. false≢true (sym c.if-not-is_marked.true ∙ c.is_marked.ensures.1 on)) in
    step_found t c.args.self.now _ c.args.v c.requires off refl c.set.ensures refl c.in_ok-push.ensures.items
