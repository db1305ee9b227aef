use Rattle.std.proofs.Common.{drop, IsTrue, subst, sym, ◌∙◌}
use Rattle.ap_lex.specs.Forms.{is_token}
use Rattle.ap_lexemes.proofs.ListingLemmas.{quote-first}
use Rattle.ap_lexemes.proofs.listing.lexeme.Goals as goal

pub invariant_of-result-clause-quoted : goal.invariant_of-result-clause-quoted
invariant_of-result-clause-quoted c = λ is.
    let rest = drop c.args.token.to c.args.text.now in
    quote-first c.args.token.kind c.spelling-spelling.result.now rest
    (subst (λ bytes. IsTrue (is_token c.args.token.kind bytes rest)) (sym c.spelling-spelling.ensures) c.requires.form) (sym c.terminal.ensures ∙ is)
