use Rattle.std.proofs.Common.{ap, ◌-◌, length, ◌∙◌}
use Rattle.std.proofs.lemmas.List.{take_rest}
use Rattle.ap_lexemes.specs.Lexemes.{lexemes_of}
use Rattle.ap_parse.specs.Texts.{statement_len, statement_of}
use Rattle.ap_parse.proofs.TextLemmas.{each_within, statement_fault, statement_memory, statement_read}
use Rattle.ap_parse.proofs.texts.statement.Goals as goal

pub up_to_dot-front-requires : goal.up_to_dot-front-requires
up_to_dot-front-requires c = each_within c.args.text.now c.args.tokens.now c.args.from (length c.args.tokens.now - c.args.from) c.requires.all

pub returns-in_err-copied : goal.returns-in_err-copied
returns-in_err-copied c = statement_memory c.from_residual.ensures.1

pub returns-in_err-tokenized : goal.returns-in_err-tokenized
returns-in_err-tokenized c = statement_memory c.from_residual-in_err-tokenized.ensures.1

pub returns-in_err-statement : goal.returns-in_err-statement
returns-in_err-statement c =
    let text = c.args.text.now in
    let rest = take_rest c.args.tokens.now c.args.from in
    statement_fault c.is_of_type.ensures
    (c.in_ok-tokenized.ensures.tokens ∙ ap (lexemes_of text 0) c.in_ok-copied.ensures.items ∙ c.up_to_dot-front.ensures.front ∙ ap (λ ts. statement_of (lexemes_of text 0 ts)) rest)
    c.in_ok-tokenized.ensures.end c.in_ok-tokenized.ensures.cut c.in_err-statement.ensures c.from_residual-in_err-statement.ensures.1

pub returns : goal.returns
returns c =
    let text = c.args.text.now in
    let rest = take_rest c.args.tokens.now c.args.from in
    statement_read c.is_of_type.ensures
    (c.in_ok-tokenized.ensures.tokens ∙ ap (lexemes_of text 0) c.in_ok-copied.ensures.items ∙ c.up_to_dot-front.ensures.front ∙ ap (λ ts. statement_of (lexemes_of text 0 ts)) rest)
    c.in_ok-tokenized.ensures.end c.in_ok-tokenized.ensures.cut
    (c.up_to_dot-front.ensures.len ∙ ap (λ ts. statement_len (lexemes_of text 0 ts)) rest) c.in_ok-statement.ensures
