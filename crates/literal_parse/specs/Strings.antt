-- The characters of a string.
use Rattle.std.specs.Prelude.{◌≡◌, ℕ, ◌<◌, List, [], ◌++◌, Option, Some, None, length}
use Rattle.std.specs.Char.{encode_utf8}
use Rattle.ap_grammar.specs.Lexemes.{unescaped}

-- a character was read, an escape as the character that it stands for; or nothing is left before the last quote
abbrev pub Unescapes : List ℕ → List ℕ → Option ℕ → Type 0
Unescapes old new (Some c) = (unescaped old ≡ encode_utf8 c ++ unescaped new) × (length new < length old)
Unescapes old new None = unescaped old ≡ []
