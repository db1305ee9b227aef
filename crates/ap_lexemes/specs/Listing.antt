-- The tokens of a text that are made when they are looked at.
use Rattle.std.specs.Prelude.{List}
use Rattle.ap_grammar.specs.Lexemes.{Lexeme}
use Rattle.ap_lexemes.specs.Lexemes.{lexemes_of}
use Rattle.ap_lexemes.specs.declared.lexemes.Lexemes.{Lexemes}

-- which tokens they are
abbrev pub listed : Lexemes → List Lexeme
listed l = lexemes_of l.text.now l.file l.tokens.now
