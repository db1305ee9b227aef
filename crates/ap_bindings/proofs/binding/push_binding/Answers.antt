use Rattle.std.proofs.Common.{sym, ap, subst, ℕ, not, ◌&&◌, ◌||◌, List, Option, Some, None}
use Rattle.definite.specs.declared.Rule.{Rule}
use Rattle.ap_pieces.specs.declared.pieces.Side.TheVariants as side
use Rattle.ap_pieces.specs.Pieces.{side_occurrences}
use Rattle.ap_pieces.specs.Bound.{has_all, binds_side}
use Rattle.ap_bindings.specs.Searches.{names_in, also, IsListedTerm, AreRules}
use Rattle.ap_bindings.proofs.BindingLemmas.{grows_twice, listed_grows, rules_push, rules_kept, rules_grow}
use Rattle.ap_bindings.proofs.binding.push_binding.Goals as goal

pub returns-in_ok-push-in-Some-clause-rules : goal.returns-in_ok-push-in-Some-clause-rules
returns-in_ok-push-in-Some-clause-rules c = λ test h.
    let given = names_in c.args.given.now in
    let body : IsListedTerm given c.side_numbers.new.table.names (side_occurrences c.args.other.now) (Some c.in-Some.body) =
    subst (λ (list : Option (List ℕ)). IsListedTerm given c.side_numbers.new.table.names (side_occurrences c.args.other.now) list) c.in-Some.is c.in_ok-body.ensures.listed in
    subst (λ (rules : List Rule). AreRules c.number_of.new.table.names rules (λ z. test z && binds_side (also given z) (side.Variable c.args.name.now) c.args.other.now)) (sym c.in_ok-push-in-Some.ensures.items)
    (rules_push c.args.table.now c.number_of.new.table c.args.rules.now.items (record { body = c.in-Some.body; heads = c.in_ok-heads-in-Some.heads }) test
    (λ z. has_all (also given z) (side_occurrences c.args.other.now)) (λ z. also given z c.args.name.now)
    (grows_twice c.args.table.now c.side_numbers.new.table c.number_of.new.table c.in_ok-body.ensures.grows c.in_ok-heads-in-Some.ensures.grows) h
    (listed_grows c.side_numbers.new.table c.number_of.new.table c.in-Some.body (λ z. has_all (also given z) (side_occurrences c.args.other.now)) c.in_ok-heads-in-Some.ensures.grows body)
    c.in_ok-heads-in-Some.ensures.listed)

pub returns-in-None-clause-rules : goal.returns-in-None-clause-rules
returns-in-None-clause-rules c = λ test h.
    let given = names_in c.args.given.now in
    let none : IsListedTerm given c.side_numbers.new.table.names (side_occurrences c.args.other.now) None =
    subst (λ (list : Option (List ℕ)). IsListedTerm given c.side_numbers.new.table.names (side_occurrences c.args.other.now) list) c.in-None.is c.in_ok-body.ensures.listed in
    rules_kept c.side_numbers.new.table.names c.args.rules.now.items test (λ z. binds_side (also given z) (side.Variable c.args.name.now) c.args.other.now)
    (λ z. ap (λ b. not b || also given z c.args.name.now) (none (also given z)))
    (rules_grow c.args.table.now c.side_numbers.new.table c.args.rules.now.items test c.in_ok-body.ensures.grows h)
