-- The tokens of a file, with the first limit that they go beyond.
use Rattle.std.specs.Prelude.{◌≡◌, ℕ, ◌-◌, ◌==◌, ◌&&◌, not, Bool, false, List, Option, None, Some, drop, length, take}
use Rattle.ap_grammar.specs.Lexemes.{Lexeme}
use Rattle.ap_lexemes.specs.Lexemes.{lexemes_of}
use Rattle.ap_lexemes.specs.Limits.{first_limit}
use Rattle.ap_lexemes.specs.Stops.{stopped, up_to}
use Rattle.ap_lexemes.specs.Texts.{AreLexemes, is_cut}
use Rattle.ap_lexemes.specs.declared.limit.LimitAt.{LimitAt}
use Rattle.ap_lexemes.specs.declared.fault.ParseFault.{ParseFault}
use Rattle.ap_lexemes.specs.declared.tokenized.Tokenized.{Tokenized}

-- the tokens as the grammar sees them
abbrev pub tokens_of : Tokenized → List Lexeme
tokens_of t = lexemes_of t.text.now t.file t.tokens.items

-- those up to the first limit, which are read
abbrev pub readable : List Lexeme → List Lexeme
readable xs = up_to (first_limit xs) xs

-- They are the tokens of a file, with the place behind them and whether bytes are left there.
pub record IsTokenized (bytes : List ℕ) (file : ℕ) (t : Tokenized) : Type 0 where
  pub tokens : AreLexemes bytes file (tokens_of t) t.end
  pub cut : t.is_cut ≡ is_cut bytes t.end

-- All is read where so many tokens are left, if no limit stands in them and no bytes are left behind them.
abbrev pub is_read : Option LimitAt → Bool → ℕ → Bool
is_read None cut left = left == 0 && not cut
is_read (Some l) cut left = false

-- the fault where so many of the tokens up to the first limit are left
abbrev pub fault_where : Bool → List Lexeme → ℕ → ℕ → ParseFault
fault_where of_type xs end left = let read = length (readable xs) - left in
    stopped of_type (first_limit xs) xs end (take read (readable xs)) (drop read (readable xs))
