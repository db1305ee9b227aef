-- The bytes that tokens are made of.
use Rattle.std.specs.Prelude.{ℕ, Bool, false, ◌&&◌, ◌||◌, ◌==◌, List, [], ◌∷◌, nat_le}

abbrev pub is_between : ℕ → ℕ → ℕ → Bool
is_between low high b = nat_le low b && nat_le b high

abbrev pub is_digit : ℕ → Bool
is_digit b = is_between 48 57 b

-- a letter from a to z
abbrev pub is_small_letter : ℕ → Bool
is_small_letter b = is_between 97 122 b

-- a letter from A to Z
abbrev pub is_capital_letter : ℕ → Bool
is_capital_letter b = is_between 65 90 b

-- a letter, a digit, an underscore or an apostrophe
abbrev pub is_word_byte : ℕ → Bool
is_word_byte b = is_small_letter b || is_capital_letter b || is_digit b || b == 95 || b == 39

-- a space, a tab, a carriage return or a line feed
abbrev pub is_blank : ℕ → Bool
is_blank b = b == 32 || b == 9 || b == 13 || b == 10

-- whether a text begins with such a byte; the empty one does not
abbrev pub begins_with : (ℕ → Bool) → List ℕ → Bool
begins_with test [] = false
begins_with test (b ∷ bs) = test b
