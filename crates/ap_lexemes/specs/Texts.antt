-- What a text comes to: a value, or a fault and its place.
use Rattle.std.specs.Prelude.{◌≡◌, ℕ, ◌+◌, ◌≤◌, Bool, true, false, List, [], ◌∷◌, ◌++◌, Option, None, Some, Result, Ok, Err, IfSome, get_or, length, nat_lt, take}
use Rattle.std.specs.Str.Lossy.{utf8_valid_len}
use Rattle.grammar.specs.Fault.{IsText, IsFault}
use Rattle.ap_grammar.specs.Grammar.{Name, grammar}
use Rattle.ap_grammar.specs.Lexemes.{Lexeme, no_lexeme}
use Rattle.ap_grammar.specs.Values.{Value}
use Rattle.ap_lex.specs.Tokens.{ReadsUpTo}
use Rattle.ap_lex.specs.declared.token.Token.{Token}
use Rattle.ap_lexemes.specs.Constructs.{construct_of}
use Rattle.ap_lexemes.specs.Lexemes.{lexemes_of}
use Rattle.ap_lexemes.specs.Limits.{first_limit}
use Rattle.ap_lexemes.specs.declared.construct.Construct.{Construct}
use Rattle.ap_lexemes.specs.declared.limit.LimitAt.{LimitAt}
use Rattle.ap_lexemes.specs.declared.fault.ParseFault.{ParseFault}
use Rattle.ap_lexemes.specs.declared.fault.ParseFault.TheVariants.{Syntax, Unsupported, Limit}

-- ---- the tokens of a text

-- The tokens of the bytes of a file up to the first place where none begins. Where the bytes stop being UTF-8, the text is
-- their longest front that is UTF-8.
pub record AreLexemes (bytes : List ℕ) (file : ℕ) (xs : List Lexeme) (end : ℕ) : Type 0 where
  pub tokens : List Token
  pub reads : ReadsUpTo (take (utf8_valid_len bytes) bytes) tokens end
  pub are : xs ≡ lexemes_of (take (utf8_valid_len bytes) bytes) file tokens

-- whether the tokens are cut off there: bytes are left, of which no token begins
abbrev pub is_cut : List ℕ → ℕ → Bool
is_cut bytes end = nat_lt end (length bytes)

-- ---- what tokens come to

-- whether a text of the rule begins in a type's part
abbrev pub in_type : Name → Bool
in_type (Name.Text whole of_type) = of_type
in_type (Name.Statement whole of_type) = of_type
in_type (Name.One of_type) = of_type
in_type (Name.Rule of_type) = of_type
in_type n = false

-- some text of the rule begins with these tokens
abbrev pub Begins : Name → List Lexeme → Type 0
Begins n read = (more : List Lexeme) × (v : Value) × IsText grammar n (read ++ more) v

-- no limit stands at the first tokens, so many of them
abbrev pub NoLimitBefore : ℕ → List Lexeme → Type 0
NoLimitBefore count xs = IfSome (first_limit xs) (λ l. count ≤ l.index)

abbrev pub place_of : List Lexeme → ℕ → ℕ
place_of xs index = (get_or xs index no_lexeme).at

-- the fault at a token, by the construct that it begins
abbrev pub fault_of : Option Construct → ℕ → ParseFault
fault_of None at = Syntax at
fault_of (Some construct) at = Unsupported construct at

-- What the tokens of a text come to, with the place behind them and whether they are cut off there. The first place of a fault
-- counts: a limit stands at the last token up to which some text begins as this one does, and all else behind that. A text
-- that is cut off is at fault there even if its tokens are a whole text.
pub data IsOutcome (n : Name) (xs : List Lexeme) (end : ℕ) (is_cut : Bool) : Result Value ParseFault → Type 0 where
  good : {v : Value} → IsText grammar n xs v → first_limit xs ≡ None → is_cut ≡ false → IsOutcome n xs end is_cut (Ok v)
  limit : {l : LimitAt} → first_limit xs ≡ Some l → Begins n (take (l.index + 1) xs) → IsOutcome n xs end is_cut (Err (Limit l.which (place_of xs l.index)))
  token : {read rest : List Lexeme} {x : Lexeme} → xs ≡ read ++ (x ∷ rest) → IsFault grammar n read (x ∷ rest) → NoLimitBefore (length read) xs
      → IsOutcome n xs end is_cut (Err (fault_of (construct_of (in_type n) read x) x.at))
  ends : IsFault grammar n xs [] → first_limit xs ≡ None → IsOutcome n xs end is_cut (Err (Syntax end))
  cut : {v : Value} → IsText grammar n xs v → first_limit xs ≡ None → is_cut ≡ true → IsOutcome n xs end is_cut (Err (Syntax end))
