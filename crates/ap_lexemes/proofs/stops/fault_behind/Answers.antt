use Rattle.std.proofs.Common.{ap, ◌∙◌}
use Rattle.ap_lexemes.specs.Constructs.{construct_of}
use Rattle.ap_lexemes.specs.Lexemes.{lexeme_of}
use Rattle.ap_lexemes.specs.Listing.{listed}
use Rattle.ap_lexemes.specs.Texts.{fault_of}
use Rattle.ap_lexemes.proofs.StopLemmas.{stopped-at, stopped-end}
use Rattle.ap_lexemes.proofs.stops.fault_behind.Goals as goal

pub returns-in-Some : goal.returns-in-Some
returns-in-Some c =
    let token = lexeme_of c.in-Some.token in
    c.fault_of.ensures ∙ ap (λ o. fault_of o token.at) (c.construct_of.ensures ∙ ap (λ front. construct_of c.args.of_type front token) c.front.ensures)
    ∙ stopped-at c.args.of_type c.args.limit (listed c.args.lexemes) c.args.end c.args.read token c.up_to-tokens.ensures c.in-Some.ensures

pub returns-in-None : goal.returns-in-None
returns-in-None c = c.last_fault.ensures ∙ stopped-end c.args.of_type c.args.limit (listed c.args.lexemes) c.args.end c.args.read c.up_to-tokens.ensures c.in-None.ensures
