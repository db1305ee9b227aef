-- The text of a value, as bytes.
use Rattle.std.specs.Prelude.{◌≡◌, ℕ, ◌==◌, ◌&&◌, List, [], ◌∷◌, ◌++◌, length, if◌then◌else◌, codes}
use Rattle.std.specs.List.{flat_map, join_with_byte}
use Rattle.std.specs.Fmt.{signed_decimal}
use Rattle.ap_term.specs.Value.{Value, integer, constant, string, compound, Values, none, also, arity}

-- the bytes that the text is made of
abbrev pub line_feed : ℕ
line_feed = 10

abbrev pub quote : ℕ
quote = 34

abbrev pub comma : ℕ
comma = 44

abbrev pub backslash : ℕ
backslash = 92

-- a byte of a string: a backslash, a quote and a line feed are written with a backslash
abbrev pub escaped : ℕ → List ℕ
escaped b = if b == backslash then backslash ∷ backslash ∷ [] else (if b == quote then backslash ∷ quote ∷ [] else (if b == line_feed then backslash ∷ codes "n" else b ∷ []))

-- a string stands between quotes
abbrev pub quoted : List ℕ → List ℕ
quoted bytes = quote ∷ flat_map escaped bytes ++ quote ∷ []

-- a tuple of one member has a comma after it, which tells it from a value in parentheses
abbrev pub mark_of_one : List ℕ → Values → List ℕ
mark_of_one name vs = if length name == 0 && arity vs == 1 then comma ∷ [] else []

-- integers in decimal, constants by name, strings in quotes; compound terms as their name and, in parentheses, their arguments parted by
-- commas, and tuples in the same way, without a name
abbrev mutual
  pub text : Value → List ℕ
  text (integer n) = signed_decimal n
  text (constant name) = name
  text (string bytes) = quoted bytes
  text (compound name vs) = name ++ codes "(" ++ join_with_byte comma (texts vs) ++ mark_of_one name vs ++ codes ")"

  pub texts : Values → List (List ℕ)
  texts none = []
  texts (also v vs) = text v ∷ texts vs

-- something may have been written after the old text, which stays
pub record Extends (old new : List ℕ) : Type 0 where
  pub rest : List ℕ
  pub is : new ≡ old ++ rest
