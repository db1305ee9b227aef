use Rattle.std.proofs.Common.{sym, subst, List}
use Rattle.std.specs.Prelude.{flat_map}
use Rattle.std.specs.List.{list_all}
use Rattle.definite.specs.declared.Rule.{Rule}
use Rattle.ap_pieces.specs.declared.pieces.Mention.{Mention}
use Rattle.ap_pieces.specs.Bound.{Names, is_closed, binders, IsBound, no_names}
use Rattle.ap_bindings.specs.Searches.{names_in, also, AreRules, marked_in}
use Rattle.ap_bindings.specs.Unsafe.{definite_by}
use Rattle.ap_bindings.proofs.BindingLemmas.{if_ok, without_given}
use Rattle.ap_bindings.proofs.binding.bound_outside.Goals as goal

pub returns : goal.returns
returns c =
    let none = names_in c.new-none.result in
    let plain = flat_map (binders (definite_by c.args.safe.now) (names_in c.args.globals.now)) c.args.pieces.now in
    if_ok c.bound_of.result
    (λ bound. (given : Names) (conjunction : List Mention) → AreRules c.outer_rules.new.table.names c.as_slice.result.now (λ z. list_all (is_closed (also given z)) conjunction) → IsBound given conjunction (also given (marked_in bound)))
    (λ bound. IsBound no_names plain (marked_in bound))
    (λ bound f. without_given none plain (marked_in bound) c.new-none.ensures (f none plain
    (subst (λ (rules : List Rule). AreRules c.outer_rules.new.table.names rules (λ z. list_all (is_closed (also none z)) plain)) (sym c.as_slice.ensures.value) c.in_ok-rules.ensures.rules)))
    c.bound_of.ensures
