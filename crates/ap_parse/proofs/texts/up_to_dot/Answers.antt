use Rattle.std.proofs.Common.{ap, sym, take, ◌∙◌}
use Rattle.std.proofs.lemmas.List.{take-map}
use Rattle.ap_lexemes.specs.Lexemes.{lexeme_at, lexemes_of}
use Rattle.ap_parse.proofs.texts.up_to_dot.Goals as goal

pub returns-clause-front : goal.returns-clause-front
returns-clause-front c = sym (take-map (lexeme_at c.args.text.now 0) c.statement_len.result c.args.tokens.now) ∙ ap (λ n. take n (lexemes_of c.args.text.now 0 c.args.tokens.now)) c.statement_len.ensures.len
