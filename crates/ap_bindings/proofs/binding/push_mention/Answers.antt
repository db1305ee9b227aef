use Rattle.std.proofs.Common.{sym, subst, Bool, ◌&&◌, List, OnOk}
use Rattle.std.specs.List.{list_all}
use Rattle.ap_pieces.specs.declared.variables.Occurrence.{Occurrence}
use Rattle.ap_pieces.specs.declared.pieces.Mention.{Mention}
use Rattle.ap_pieces.specs.Bound.{Names, has_argument, is_closed}
use Rattle.ap_bindings.specs.Searches.{names_in, also, AreRules}
use Rattle.ap_bindings.proofs.binding.push_mention.Goals as goal

pub returns-in-Atom-clause-rules : goal.returns-in-Atom-clause-rules
returns-in-Atom-clause-rules c =
    subst (λ (m : Mention). OnOk c.push_arguments.result ((test : Names → Bool) → AreRules c.args.table.now.names c.args.rules.now.items test → AreRules c.push_arguments.new.table.names c.push_arguments.new.rules.items (λ z. test z && is_closed (also (names_in c.args.given.now) z) m)))
    (sym c.in-Atom.is)
    (subst (λ (os : List Occurrence). OnOk c.push_arguments.result ((test : Names → Bool) → AreRules c.args.table.now.names c.args.rules.now.items test → AreRules c.push_arguments.new.table.names c.push_arguments.new.rules.items (λ z. test z && list_all (has_argument (also (names_in c.args.given.now) z)) os)))
    c.as_slice.ensures c.push_arguments.ensures.rules)

pub returns-in-Equal-clause-rules : goal.returns-in-Equal-clause-rules
returns-in-Equal-clause-rules c =
    subst (λ (m : Mention). OnOk c.push_sides.result ((test : Names → Bool) → AreRules c.args.table.now.names c.args.rules.now.items test → AreRules c.push_sides.new.table.names c.push_sides.new.rules.items (λ z. test z && is_closed (also (names_in c.args.given.now) z) m)))
    (sym c.in-Equal.is) c.push_sides.ensures.rules
