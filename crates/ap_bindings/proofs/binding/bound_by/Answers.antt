use Rattle.std.proofs.Common.{sym, subst, List}
use Rattle.std.specs.List.{list_all}
use Rattle.definite.specs.declared.Rule.{Rule}
use Rattle.ap_pieces.specs.declared.pieces.Mention.{Mention}
use Rattle.ap_pieces.specs.Bound.{Names, is_closed, IsBound}
use Rattle.ap_bindings.specs.Searches.{names_in, also, AreRules, marked_in, bound_in}
use Rattle.ap_bindings.proofs.BindingLemmas.{if_ok}
use Rattle.ap_bindings.proofs.binding.bound_by.Goals as goal

pub returns : goal.returns
returns c = if_ok c.bound_of.result
    (λ bound. (given : Names) (conjunction : List Mention) → AreRules c.rules_of.new.table.names c.as_slice.result.now (λ z. list_all (is_closed (also given z)) conjunction) → IsBound given conjunction (also given (marked_in bound)))
    (λ bound. IsBound (names_in c.args.given.now) c.args.conjunction.now (bound_in c.args.given.now bound))
    (λ bound f. f (names_in c.args.given.now) c.args.conjunction.now
    (subst (λ (rules : List Rule). AreRules c.rules_of.new.table.names rules (λ z. list_all (is_closed (also (names_in c.args.given.now) z)) c.args.conjunction.now)) (sym c.as_slice.ensures.value) c.in_ok-rules.ensures.rules))
    c.bound_of.ensures
