-- A canonical text that is read as its program again.
use Rattle.std.specs.Prelude.{◌≡◌, ℕ, Bool, List, None, Ok, map}
use Rattle.std.specs.Str.{IsUtf8}
use Rattle.grammar.specs.Fault.{IsText}
use Rattle.ap_syntax.specs.declared.programs.PartKind.{PartKind}
use Rattle.ap_syntax.specs.declared.programs.Program.{Program}
use Rattle.ap_syntax.specs.declared.programs.Statement.{Statement}
use Rattle.ap_syntax.specs.Canonical.{canonical_text}
use Rattle.ap_grammar.specs.Grammar.{Name, grammar}
use Rattle.ap_grammar.specs.Values.Value.{program}
use Rattle.ap_lex.specs.declared.token.Token.{Token}
use Rattle.ap_lex.specs.Tokens.{IsTokens}
use Rattle.ap_lexemes.specs.Lexemes.{lexemes_of}
use Rattle.ap_lexemes.specs.Limits.{first_limit}
use Rattle.ap_parse.specs.Openings.{is_of_type}
use Rattle.ap_parse.specs.Texts.{IsReading}
use Rattle.canonical_law.specs.Unplaced.{unplaced}

-- The statements of a text that begins in a part, with preference statements in the grammar (`whole`) or without, by
-- the tokens of the text as those of some file.
pub record AreStatementsOf (whole : Bool) (part : PartKind) (text : List ℕ) (file : ℕ) (statements : List Statement) : Type 0 where
  pub tokens : List Token
  pub are : IsTokens text tokens
  pub text_is : IsText grammar (Name.Text whole (is_of_type part)) (lexemes_of text file tokens) (program statements)

-- The canonical text of the program is a text of the grammar, for statements that are those of the program but for
-- their places. It is UTF-8, and goes beyond no limit of nesting, of arity or of formulas. So it is read as these
-- statements.
pub record ReadsBack (whole : Bool) (part : PartKind) (p : Program) (file : ℕ) : Type 0 where
  pub statements : List Statement
  pub are : AreStatementsOf whole part (canonical_text p) file statements
  pub same : map unplaced statements ≡ map unplaced p.statements
  pub is_utf8 : IsUtf8 (canonical_text p)
  pub no_limit : first_limit (lexemes_of (canonical_text p) file are.tokens) ≡ None
  pub is_read : IsReading whole part (canonical_text p) file (Ok (record { statements = statements }))
