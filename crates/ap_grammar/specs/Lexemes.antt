-- The tokens of a text as the grammar sees them.
use Rattle.std.specs.Prelude.{ℕ, ◌+◌, ◌*◌, ◌-◌, ◌==◌, List, [], ◌∷◌, fold, if◌then◌else◌}
use Rattle.ap_grammar.specs.declared.terminals.Terminal.{Terminal}
use Rattle.ap_grammar.specs.declared.terminals.Terminal.TheVariants.{Stray}

-- A token: its kind, its bytes, the number of its file, and the place of its first byte in the text.
pub record Lexeme : Type 0 where
  pub terminal : Terminal
  pub bytes : List ℕ
  pub file : ℕ
  pub at : ℕ

-- what stands for a token where there is none
abbrev pub no_lexeme : Lexeme
no_lexeme = record { terminal = Stray; bytes = []; file = 0; at = 0 }

-- the number that digits write in base 10
abbrev pub decimal : List ℕ → ℕ
decimal digits = fold (λ n digit. n * 10 + (digit - 48)) 0 digits

-- the character that a letter behind a backslash stands for: a line feed for n, and else itself
abbrev pub escaped : ℕ → ℕ
escaped b = if b == 110 then 10 else b

-- the characters between the quotes of a string, each escape by its character
abbrev pub unescaped : List ℕ → List ℕ
unescaped [] = []
unescaped (b ∷ []) = if b == 34 then [] else b ∷ []
unescaped (b ∷ c ∷ rest) =
    if b == 34 then []
    else if b == 92 then escaped c ∷ unescaped rest
    else b ∷ unescaped (c ∷ rest)

-- the characters of a string, which begins with its quote
abbrev pub string_of : List ℕ → List ℕ
string_of [] = []
string_of (quote ∷ rest) = unescaped rest
