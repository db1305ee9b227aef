-- The tokens of a text. At each place the longest token is taken; blanks and comments stand between them.
use Rattle.std.specs.Prelude.{ℕ, ◌<◌, ◌≤◌, List, [], ◌∷◌, IsTrue, length, drop, slice_range}
use Rattle.ap_lex.specs.Forms.{is_gap, is_token}
use Rattle.ap_lex.specs.declared.token.Kind.{Kind}
use Rattle.ap_lex.specs.declared.token.Token.{Token}

-- The bytes from one place to another are a token of this kind.
pub record IsToken (text : List ℕ) (kind : Kind) (from to : ℕ) : Type 0 where
  pub within : to ≤ length text
  pub form : IsTrue (is_token kind (slice_range text from to) (drop to text))

-- No token that begins at the same place is longer.
pub record IsLongest (text : List ℕ) (kind : Kind) (from to : ℕ) : Type 0 where
  pub token : IsToken text kind from to
  pub longest : (other : Kind) (end : ℕ) → IsToken text other from end → end ≤ to

-- The bytes from one place to another are a blank or a comment.
pub record IsGap (text : List ℕ) (from to : ℕ) : Type 0 where
  pub within : to ≤ length text
  pub form : IsTrue (is_gap (slice_range text from to) (drop to text))

-- From one place to another the text reads as these tokens: nothing is left, or a blank or a comment comes first, or the
-- longest token at its place.
pub data Reads (text : List ℕ) : ℕ → List Token → ℕ → Type 0 where
  nothing : {at : ℕ} → Reads text at [] at
  gap : {from middle to : ℕ} {tokens : List Token} → IsGap text from middle → Reads text middle tokens to → Reads text from tokens to
  token : {from middle to : ℕ} {kind : Kind} {tokens : List Token} → IsLongest text kind from middle → Reads text middle tokens to
      → Reads text from (record { kind = kind; from = from; to = middle } ∷ tokens) to

-- No token begins at this place, no blank and no comment.
pub record BeginsNothing (text : List ℕ) (at : ℕ) : Type 0 where
  pub tokens : (kind : Kind) (to : ℕ) → IsToken text kind at to → ⊥
  pub gaps : (to : ℕ) → IsGap text at to → ⊥

-- The text reads as these tokens up to this place, and no further: it is the end of the text, or a fault.
pub record ReadsUpTo (text : List ℕ) (tokens : List Token) (at : ℕ) : Type 0 where
  pub reads : Reads text 0 tokens at
  pub stops : BeginsNothing text at

-- These are the tokens of the text.
abbrev pub IsTokens : List ℕ → List Token → Type 0
IsTokens text tokens = Reads text 0 tokens (length text)

-- The first place where no token begins.
pub record IsFault (text : List ℕ) (at : ℕ) : Type 0 where
  pub inside : at < length text
  pub tokens : List Token
  pub reads : ReadsUpTo text tokens at
