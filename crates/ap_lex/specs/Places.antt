-- The piece that begins at a place of a text.
use Rattle.std.specs.Prelude.{ℕ, ◌+◌, List, Option, None, Some}
use Rattle.ap_lex.specs.Tokens.{BeginsNothing, IsGap, IsLongest}
use Rattle.ap_lex.specs.declared.pieces.Piece.{Piece}
use Rattle.ap_lex.specs.declared.pieces.Piece.TheVariants.{Gap, Token}

-- a blank or a comment, the longest token, or nothing
abbrev pub BeginsAt : List ℕ → ℕ → Option Piece → Type 0
BeginsAt text at None = BeginsNothing text at
BeginsAt text at (Some (Gap len)) = IsGap text at (at + len)
BeginsAt text at (Some (Token kind len)) = IsLongest text kind at (at + len)
