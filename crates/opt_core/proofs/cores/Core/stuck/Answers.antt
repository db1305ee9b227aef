use Rattle.std.proofs.Common.{◌≡◌, sym, ◌∙◌, subst}
use Rattle.opt_core.specs.States.{CoreView, at_chain}
use Rattle.opt_core.specs.Folds.{stuck_output}
use Rattle.opt_core.proofs.StateLemmas.{shut, told_new, told_old}
use Rattle.opt_core.proofs.cores.Core.stuck.Goals as goal
use Rattle.opt_core.proofs.cores.Core.stuck.Goals.{then-added, else-added}

pub invariant_of-self-2 : goal.invariant_of-self-2
invariant_of-self-2 c = shut c.self.inside.met c.self.inside.chains c.put.new.self c.args.chain c.put.ensures c.self.invariant

pub returns-clause-output : goal.returns-clause-output
returns-clause-output c =
    let s : CoreView = record { met = c.self.inside.met; passed = c.self.inside.passed.items; printed = c.self.inside.printed.keys; chains = c.self.inside.chains; ended = c.self.inside.ended } in
    subst (λ (s : CoreView). c.if-added.result ≡ stuck_output s (at_chain s.chains c.args.chain)) c.self.view_is (elim c.if-added.branch [
      | then-added w ↦ w.result-is ∙ sym (told_new s c.args.chain c.open_at-id.result c.in-Ok.added c.open_at-id.ensures.set c.in-Ok.ensures.added w.if-added.true)
      | else-added w ↦ w.result-is ∙ sym (told_old s c.args.chain c.open_at-id.result c.in-Ok.added c.open_at-id.ensures.set c.in-Ok.ensures.added w.if-added.false)
    ])
