use Rattle.std.proofs.Common.{◌≡◌, sym, ap, ◌∙◌}
use Rattle.std.specs.List.{list_all}
use Rattle.std.specs.Option.{is_none}
use Rattle.opt_core.proofs.ChainLemmas.{all_closed, closed_all}
use Rattle.opt_core.proofs.chains.Chains.are_closed.Goals as goal

pub returns : goal.returns
returns c =
    let same : c.all_none.result ≡ list_all is_none c.args.self.now = c.all_none.ensures ∙ ap (list_all is_none) (c.as_slice.ensures.value ∙ c.self.view_is) in
    (λ t. all_closed c.args.self.now (sym same ∙ t), λ h. same ∙ closed_all c.args.self.now h)
