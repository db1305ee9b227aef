-- Tokens of a text as the grammar sees them.
use Rattle.std.specs.Prelude.{ℕ, List, map, slice_range}
use Rattle.ap_grammar.specs.Lexemes.{Lexeme}
use Rattle.ap_lex.specs.declared.token.Token.{Token}
use Rattle.ap_lexemes.specs.Terminals.{terminal_of}
use Rattle.ap_lexemes.specs.declared.lexeme.Lexeme.{Lexeme as Held}

-- a token of the code
abbrev pub lexeme_of : Held → Lexeme
lexeme_of t = record { terminal = t.terminal; bytes = t.spelling.now; file = t.file; at = t.at }

-- a token of the text of a file
abbrev pub lexeme_at : List ℕ → ℕ → Token → Lexeme
lexeme_at text file token =
    record { terminal = terminal_of token.kind (slice_range text token.from token.to); bytes = slice_range text token.from token.to; file = file; at = token.from }

-- the tokens of the text of a file
abbrev pub lexemes_of : List ℕ → ℕ → List Token → List Lexeme
lexemes_of text file tokens = map (lexeme_at text file) tokens
