use Rattle.std.proofs.Common.{sym, subst, ℕ, true, ◌&&◌, List}
use Rattle.std.specs.List.{list_all}
use Rattle.definite.specs.declared.Rule.{Rule}
use Rattle.ap_pieces.specs.Bound.{has_argument}
use Rattle.ap_bindings.specs.Searches.{names_in, also, IsListed, AreRules}
use Rattle.ap_bindings.proofs.BindingLemmas.{listed_none, rules_push}
use Rattle.ap_bindings.proofs.binding.push_arguments.Goals as goal

pub returns-clause-rules : goal.returns-clause-rules
returns-clause-rules c = λ test h.
    subst (λ (rules : List Rule). AreRules c.numbers_of.new.table.names rules (λ z. test z && list_all (has_argument (also (names_in c.args.given.now) z)) c.args.occurrences.now)) (sym c.in_ok-push.ensures.items)
    (rules_push c.args.table.now c.numbers_of.new.table c.args.rules.now.items (record { body = c.new.result; heads = c.in_ok-heads.heads }) test (λ z. true) (λ z. list_all (has_argument (also (names_in c.args.given.now) z)) c.args.occurrences.now)
    c.in_ok-heads.ensures.grows h
    (subst (λ (list : List ℕ). IsListed c.numbers_of.new.table.names list (λ z. true)) (sym c.new.ensures) (listed_none c.numbers_of.new.table.names))
    c.in_ok-heads.ensures.listed)
