-- What texts, files and single statements come to.
use Rattle.std.specs.Prelude.{◌≡◌, ℕ, ◌+◌, Bool, true, false, List, [], ◌∷◌, Result, Ok, Err, drop, if◌then◌else◌, length, take}
use Rattle.ap_syntax.specs.declared.programs.PartKind.{PartKind}
use Rattle.ap_syntax.specs.declared.programs.Program.{Program}
use Rattle.ap_syntax.specs.declared.programs.Statement.{Statement}
use Rattle.ap_grammar.specs.declared.terminals.Terminal.{Terminal}
use Rattle.ap_grammar.specs.declared.terminals.Terminal.TheVariants as t
use Rattle.ap_grammar.specs.Grammar.{Name}
use Rattle.ap_grammar.specs.Lexemes.{Lexeme}
use Rattle.ap_grammar.specs.Values.{Value}
use Rattle.ap_lex.specs.declared.token.Token.{Token}
use Rattle.ap_lexemes.specs.Lexemes.{lexemes_of}
use Rattle.ap_lexemes.specs.Texts.{AreLexemes, IsOutcome, is_cut}
use Rattle.ap_lexemes.specs.declared.fault.ParseFault.{ParseFault}
use Rattle.ap_lexemes.specs.declared.fault.ParseFault.TheVariants.{Memory}
use Rattle.ap_parse.specs.Changes.{changing}
use Rattle.ap_parse.specs.Openings.{is_of_type}

-- What tokens come to by a rule of the grammar: the tree with their value, the fault, or want of memory.
pub data IsAnswer {X : Type 0} (value : X → Value) (n : Name) (xs : List Lexeme) (end : ℕ) (cut : Bool) : Result X ParseFault → Type 0 where
  tree : {x : X} → IsOutcome n xs end cut (Ok (value x)) → IsAnswer value n xs end cut (Ok x)
  fault : {f : ParseFault} → IsOutcome n xs end cut (Err f) → IsAnswer value n xs end cut (Err f)
  memory : IsAnswer value n xs end cut (Err Memory)

-- What the bytes of a file come to that begins in a part, with preference statements in the grammar (`whole`) or without. The
-- program has the statements of the text but for each `#program` that opens the part already in force.
pub data IsReading (whole : Bool) (part : PartKind) (bytes : List ℕ) (file : ℕ) : Result Program ParseFault → Type 0 where
  program : {xs : List Lexeme} {end : ℕ} {all : List Statement} {p : Program} → AreLexemes bytes file xs end
      → IsOutcome (Name.Text whole (is_of_type part)) xs end (is_cut bytes end) (Ok (Value.program all)) → p.statements ≡ changing part all → IsReading whole part bytes file (Ok p)
  fault : {xs : List Lexeme} {end : ℕ} {f : ParseFault} → AreLexemes bytes file xs end
      → IsOutcome (Name.Text whole (is_of_type part)) xs end (is_cut bytes end) (Err f) → IsReading whole part bytes file (Err f)
  memory : IsReading whole part bytes file (Err Memory)

-- What a text without preference statements comes to. Its file has the number 0.
abbrev pub IsParsed : List ℕ → PartKind → Result Program ParseFault → Type 0
IsParsed text part result = IsReading false part text 0 result

-- ---- single statements

abbrev pub is_dot : Terminal → Bool
is_dot t.Dot = true
is_dot k = false

-- how many tokens there are up to the first `.`, with it, or in all
abbrev pub statement_len : List Lexeme → ℕ
statement_len [] = 0
statement_len (x ∷ xs) = if is_dot x.terminal then 1 else statement_len xs + 1

-- the tokens up to the first `.`
abbrev pub statement_of : List Lexeme → List Lexeme
statement_of xs = take (statement_len xs) xs

-- What the statement comes to that begins at a place among the tokens of a text, with the place behind it. It ends at its first
-- `.`, and what stands before the place or behind the `.` is not looked at, so that the limits are counted from the place on.
pub data IsStatementAt (text : List ℕ) (tokens : List Token) (from : ℕ) (part : PartKind) : Result (Statement × ℕ) ParseFault → Type 0 where
  statement : {s : Statement} → IsOutcome (Name.One (is_of_type part)) (statement_of (lexemes_of text 0 (drop from tokens))) (length text) false (Ok (Value.statement s))
      → IsStatementAt text tokens from part (Ok (s, from + statement_len (lexemes_of text 0 (drop from tokens))))
  fault : {f : ParseFault} → IsOutcome (Name.One (is_of_type part)) (statement_of (lexemes_of text 0 (drop from tokens))) (length text) false (Err f)
      → IsStatementAt text tokens from part (Err f)
  memory : IsStatementAt text tokens from part (Err Memory)
