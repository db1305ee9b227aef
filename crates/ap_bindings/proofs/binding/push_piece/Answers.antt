use Rattle.std.proofs.Common.{sym, ◌∙◌, ap, Bool, ◌&&◌, List, [], ◌∷◌}
use Rattle.std.specs.List.{list_all}
use Rattle.ap_pieces.specs.declared.pieces.Mention.{Mention}
use Rattle.ap_pieces.specs.declared.pieces.Mention.TheVariants.{Equal}
use Rattle.ap_pieces.specs.declared.pieces.Piece.{Piece}
use Rattle.ap_pieces.specs.Bound.{Names, is_closed, binders}
use Rattle.ap_bindings.specs.Searches.{names_in, also, AreRules}
use Rattle.ap_bindings.specs.Unsafe.{definite_by}
use Rattle.ap_bindings.proofs.BindingLemmas.{on_ok, rules_same, one_mention}
use Rattle.ap_bindings.proofs.binding.push_piece.Goals as goal

pub returns-in-Plain-clause-rules : goal.returns-in-Plain-clause-rules
returns-in-Plain-clause-rules c =
    let given = names_in c.args.given.now in
    let binds : Piece → List Mention = binders (definite_by c.args.safe.now) (names_in c.args.globals.now) in
    let table = c.push_mention.new.table in
    let rules = c.push_mention.new.rules.items in
    on_ok c.push_mention.result
    ((test : Names → Bool) → AreRules c.args.table.now.names c.args.rules.now.items test → AreRules table.names rules (λ z. test z && is_closed (also given z) c.in-Plain.mention))
    ((test : Names → Bool) → AreRules c.args.table.now.names c.args.rules.now.items test → AreRules table.names rules (λ z. test z && list_all (is_closed (also given z)) (binds c.args.piece.now)))
    (λ f test h. rules_same table.names rules (λ z. test z && is_closed (also given z) c.in-Plain.mention) (λ z. test z && list_all (is_closed (also given z)) (binds c.args.piece.now))
    (λ z. ap (λ b. test z && b) (one_mention (also given z) c.in-Plain.mention ∙ ap (λ p. list_all (is_closed (also given z)) (binds p)) (sym c.in-Plain.is))) (f test h))
    c.push_mention.ensures.rules

pub returns-in_ok-other-in-Value-clause-rules : goal.returns-in_ok-other-in-Value-clause-rules
returns-in_ok-other-in-Value-clause-rules c =
    let given = names_in c.args.given.now in
    let binds : Piece → List Mention = binders (definite_by c.args.safe.now) (names_in c.args.globals.now) in
    let table = c.push_sides.new.table in
    let rules = c.push_sides.new.rules.items in
    let mention : Mention = Equal c.in-Value.side c.in_ok-other-in-Value.other in
    let same = ap binds c.in-Value.is ∙ ap (λ other. Equal c.in-Value.side other ∷ []) (sym c.in_ok-other-in-Value.ensures) in
    on_ok c.push_sides.result
    ((test : Names → Bool) → AreRules c.args.table.now.names c.args.rules.now.items test → AreRules table.names rules (λ z. test z && is_closed (also given z) mention))
    ((test : Names → Bool) → AreRules c.args.table.now.names c.args.rules.now.items test → AreRules table.names rules (λ z. test z && list_all (is_closed (also given z)) (binds c.args.piece.now)))
    (λ f test h. rules_same table.names rules (λ z. test z && is_closed (also given z) mention) (λ z. test z && list_all (is_closed (also given z)) (binds c.args.piece.now))
    (λ z. ap (λ b. test z && b) (one_mention (also given z) mention ∙ ap (list_all (is_closed (also given z))) (sym same))) (f test h))
    c.push_sides.ensures.rules
