-- The pieces that a canonical text is made of.
use Rattle.std.specs.Prelude.{ℕ, List, [], ◌∷◌, ◌++◌, codes}
use Rattle.std.specs.List.{flat_map}

-- the characters of a token, one blank, or the end of a line
pub data Piece : Type 0 where
  Spelled : List ℕ → Piece
  Blank : Piece
  LineFeed : Piece

abbrev pub bytes_of : Piece → List ℕ
bytes_of (Piece.Spelled bytes) = bytes
bytes_of Piece.Blank = codes " "
bytes_of Piece.LineFeed = codes "\n"

abbrev pub text_of : List Piece → List ℕ
text_of pieces = flat_map bytes_of pieces

-- a token alone
abbrev pub spelled : List ℕ → List Piece
spelled bytes = Piece.Spelled bytes ∷ []

-- a token with a blank behind it, or on both sides
abbrev pub spaced_behind : List ℕ → List Piece
spaced_behind bytes = Piece.Spelled bytes ∷ Piece.Blank ∷ []

abbrev pub spaced : List ℕ → List Piece
spaced bytes = Piece.Blank ∷ Piece.Spelled bytes ∷ Piece.Blank ∷ []

-- these, with that between them
abbrev pub parted : List Piece → List (List Piece) → List Piece
parted between [] = []
parted between (x ∷ []) = x
parted between (x ∷ y ∷ rest) = x ++ between ++ parted between (y ∷ rest)

abbrev pub commas : List (List Piece) → List Piece
commas = parted (spaced_behind (codes ","))

abbrev pub semicolons : List (List Piece) → List Piece
semicolons = parted (spaced_behind (codes ";"))

abbrev pub in_parentheses : List Piece → List Piece
in_parentheses pieces = spelled (codes "(") ++ pieces ++ spelled (codes ")")

abbrev pub in_braces : List Piece → List Piece
in_braces pieces = spelled (codes "{") ++ pieces ++ spelled (codes "}")
