-- The forms of tokens: which bytes are a token of each kind.
use Rattle.std.specs.Prelude.{ℕ, ◌+◌, ◌-◌, ◌*◌, Bool, false, not, ◌&&◌, ◌||◌, ◌==◌, List, [], ◌∷◌, ◌++◌, codes, fold, nat_le, if◌then◌else◌}
use Rattle.std.specs.List.{list_all, list_any}
use Rattle.std.specs.Str.{bytes_eq}
use Rattle.ap_lex.specs.Bytes.{begins_with, is_between, is_blank, is_capital_letter, is_digit, is_small_letter, is_word_byte}
use Rattle.ap_lex.specs.declared.token.Kind.{Kind}
use Rattle.ap_lex.specs.declared.token.Kind.TheVariants.{Num, Ident, Not, Var, Any, Str, Directive, Sign}

-- ---- numbers

-- the number that digits stand for
abbrev pub number_of : List ℕ → ℕ
number_of digits = fold (λ n b. 10 * n + (b - 48)) 0 digits

-- a 0, or a digit from 1 to 9 and further digits
abbrev pub is_numeral : List ℕ → Bool
is_numeral bytes = bytes_eq bytes (codes "0") || (begins_with (is_between 49 57) bytes && list_all is_digit bytes)

abbrev pub is_number : List ℕ → Bool
is_number bytes = is_numeral bytes && nat_le (number_of bytes) 2147483647

-- ---- words

-- any number of underscores, a letter that passes the test, and then letters, digits, underscores and apostrophes
abbrev pub is_word : (ℕ → Bool) → List ℕ → Bool
is_word is_letter [] = false
is_word is_letter (b ∷ bs) = if b == 95 then is_word is_letter bs else (is_letter b && list_all is_word_byte bs)

-- ---- strings

-- what stands behind a backslash: a backslash, a quote or an n
abbrev pub is_escape : ℕ → Bool
is_escape b = b == 92 || b == 34 || b == 110

-- Other than a quote, a backslash and a line feed. (The bytes of a character beyond ASCII are plain, each of them.)
abbrev pub is_plain : ℕ → Bool
is_plain b = not (b == 34 || b == 92 || b == 10)

-- what stands behind the first quote: plain bytes and escapes, and then the last quote
abbrev pub is_quoted : List ℕ → Bool
is_quoted [] = false
is_quoted (b ∷ []) = b == 34
is_quoted (b ∷ c ∷ bs) = if b == 92 then (is_escape c && is_quoted bs) else (is_plain b && is_quoted (c ∷ bs))

abbrev pub is_string : List ℕ → Bool
is_string [] = false
is_string (b ∷ bs) = b == 34 && is_quoted bs

-- ---- directives

-- a number sign and one or more letters from a to z
abbrev pub is_directive : List ℕ → Bool
is_directive (b ∷ c ∷ bs) = b == 35 && list_all is_small_letter (c ∷ bs)
is_directive _ = false

-- ---- signs

abbrev pub signs_of_one : List ℕ
signs_of_one = codes ".,;:(){}=<>+-*/\\&|@?^~"

abbrev pub signs_of_two : List (List ℕ)
signs_of_two = codes ":-" ∷ codes "::" ∷ codes "==" ∷ codes "!=" ∷ codes "<=" ∷ codes ">=" ∷ codes "**" ∷ codes ".." ∷ codes ">>" ∷ codes "||" ∷ codes ":~" ∷ codes "%*" ∷ []

abbrev pub is_sign : List ℕ → Bool
is_sign (b ∷ []) = list_any (λ s. s == b) signs_of_one
is_sign bytes = list_any (λ s. bytes_eq s bytes) signs_of_two

-- ---- tokens, blanks and comments

-- Whether these bytes are a token of this kind where this rest of the text follows them. No digit follows a number, and no
-- letter, digit, underscore or apostrophe the token `_`.
abbrev pub is_token : Kind → List ℕ → List ℕ → Bool
is_token Num bytes rest = is_number bytes && not (begins_with is_digit rest)
is_token Ident bytes rest = is_word is_small_letter bytes && not (bytes_eq bytes (codes "not"))
is_token Not bytes rest = bytes_eq bytes (codes "not")
is_token Var bytes rest = is_word is_capital_letter bytes
is_token Any bytes rest = bytes_eq bytes (codes "_") && not (begins_with is_word_byte rest)
is_token Str bytes rest = is_string bytes
is_token Directive bytes rest = is_directive bytes
is_token Sign bytes rest = is_sign bytes

-- A comment: a percent sign that no star follows, and the bytes up to a line feed or the end of the text.
abbrev pub is_comment : List ℕ → List ℕ → Bool
is_comment [] rest = false
is_comment (b ∷ bs) rest = b == 37 && not (begins_with (λ c. c == 42) (bs ++ rest)) && list_all (λ c. not (c == 10)) bs && not (begins_with (λ c. not (c == 10)) rest)

-- one blank, or a comment
abbrev pub is_gap : List ℕ → List ℕ → Bool
is_gap (b ∷ []) rest = is_blank b || is_comment (b ∷ []) rest
is_gap bytes rest = is_comment bytes rest
