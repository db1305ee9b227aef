use Rattle.std.proofs.Common.{◌≡◌, ◌∙◌, ap₂}
use Rattle.ap_pieces.specs.Bound.{bound_within, unbound_side}
use Rattle.ap_bindings.specs.Searches.{names_in, also, marked_in, first_name}
use Rattle.ap_bindings.proofs.BindingLemmas.{if_ok}
use Rattle.ap_bindings.proofs.UnboundLemmas.{also_none, within_none}
use Rattle.ap_bindings.proofs.unbound.unbound_guard.Goals as goal

pub returns : goal.returns
returns c =
    let none = names_in c.args.none.now in
    let outside = marked_in c.args.outside.now in
    if_ok c.first_unbound_side.result
    (λ first. first ≡ first_name (unbound_side (also none outside) (bound_within none outside (also none outside)) c.args.side.now c.args.other.now))
    (λ first. first ≡ first_name (unbound_side outside outside c.args.side.now c.args.other.now))
    (λ first e. e ∙ ap₂ (λ assumed bound. first_name (unbound_side assumed bound c.args.side.now c.args.other.now)) (also_none none outside c.requires.none) (within_none none outside c.requires.none))
    c.first_unbound_side.ensures
