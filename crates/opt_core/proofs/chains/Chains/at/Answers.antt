use Rattle.std.proofs.Common.{◌≤◌, length, sym, ◌∙◌, subst}
use Rattle.opt_core.proofs.ChainLemmas.{at_beyond}
use Rattle.opt_core.proofs.chains.Chains.at.Goals as goal

pub returns-in_err-get : goal.returns-in_err-get
returns-in_err-get c =
    let le = subst (λ xs. length xs ≤ c.args.chain) (c.deref.ensures.0 ∙ c.self.view_is) c.in_err-get.ensures.lookup.3 in
    c.from_residual.ensures ∙ sym (at_beyond c.args.self.now c.args.chain le)
