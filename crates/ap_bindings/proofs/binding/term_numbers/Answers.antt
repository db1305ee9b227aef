use Rattle.std.proofs.Common.{sym, ◌∙◌, true}
use Rattle.std.specs.List.{list_all}
use Rattle.ap_pieces.specs.Bound.{has_all}
use Rattle.ap_bindings.specs.Searches.{names_in, also, has_counted}
use Rattle.ap_bindings.proofs.BindingLemmas.{listed_same, all_named, not_all_named}
use Rattle.ap_bindings.proofs.binding.term_numbers.Goals as goal

pub returns-in_ok-numbers_of-clause-listed : goal.returns-in_ok-numbers_of-clause-listed
returns-in_ok-numbers_of-clause-listed c =
    listed_same c.numbers_of.new.table.names c.in_ok-numbers_of.field-0
    (λ z. list_all (has_counted true (also (names_in c.args.given.now) z)) c.args.occurrences.now)
    (λ z. has_all (also (names_in c.args.given.now) z) c.args.occurrences.now)
    (λ z. all_named (also (names_in c.args.given.now) z) c.args.occurrences.now (sym c.are_named.ensures ∙ c.if-are_named.true))
    c.in_ok-numbers_of.ensures.listed

pub returns-else-are_named-clause-listed : goal.returns-else-are_named-clause-listed
returns-else-are_named-clause-listed c = λ z. not_all_named z c.args.occurrences.now (sym c.are_named.ensures ∙ c.if-are_named.false)
