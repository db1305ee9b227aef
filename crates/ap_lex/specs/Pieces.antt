-- How the lexer reads the piece at the front of a text, as functions on bytes.
use Rattle.std.specs.Prelude.{ℕ, Bool, ◌+◌, ◌-◌, not, ◌&&◌, ◌==◌, List, [], ◌∷◌, Option, None, Some, codes, find, length, take, if◌then◌else◌}
use Rattle.std.specs.List.{list_any, prefix_len}
use Rattle.std.specs.Option.{option_map}
use Rattle.std.specs.Str.{bytes_eq}
use Rattle.ap_lex.specs.Bytes.{begins_with, is_blank, is_capital_letter, is_digit, is_small_letter, is_word_byte}
use Rattle.ap_lex.specs.Forms.{is_escape, is_number, signs_of_one, signs_of_two}
use Rattle.ap_lex.specs.declared.pieces.Piece.{Piece}
use Rattle.ap_lex.specs.declared.pieces.Piece.TheVariants.{Gap, Token}
use Rattle.ap_lex.specs.declared.token.Kind.{Kind}
use Rattle.ap_lex.specs.declared.token.Kind.TheVariants.{Num, Ident, Not, Var, Any, Str, Directive, Sign}

-- the length of the blank or the comment at the front
unfoldable pub gap_at : List ℕ → Option ℕ
gap_at [] = None
gap_at (b ∷ bs) =
    if is_blank b then Some 1
    else if b == 37 && not (begins_with (λ c. c == 42) bs) then Some (1 + prefix_len (λ c. not (c == 10)) bs)
    else None

-- a number has all digits that stand there
unfoldable pub number_at : List ℕ → Option Piece
number_at text = let len = prefix_len is_digit text in if is_number (take len text) then Some (Token Num len) else None

-- the kind of a word whose first byte other than an underscore is this
abbrev pub letter_kind : Option ℕ → Option Kind
letter_kind None = None
letter_kind (Some b) = if is_small_letter b then Some Ident else if is_capital_letter b then Some Var else None

-- the first byte other than an underscore
abbrev pub first_letter : List ℕ → Option ℕ
first_letter word = find (λ b. not (b == 95)) word

-- the kind of a word
unfoldable pub word_kind : List ℕ → Option Kind
word_kind word =
    if bytes_eq word (codes "not") then Some Not
    else if bytes_eq word (codes "_") then Some Any
    else letter_kind (first_letter word)

abbrev pub token_of_len : ℕ → Option Kind → Option Piece
token_of_len len None = None
token_of_len len (Some kind) = Some (Token kind len)

-- a word has all word bytes that stand there
unfoldable pub word_at : List ℕ → Option Piece
word_at text = let len = prefix_len is_word_byte text in token_of_len len (word_kind (take len text))

-- what follows the byte behind a backslash
abbrev pub behind_escape : List ℕ → Option (List ℕ)
behind_escape [] = None
behind_escape (b ∷ bs) = if is_escape b then Some bs else None

-- what follows a string, whose first quote stands before this text
abbrev pub behind_string : List ℕ → Option (List ℕ)
behind_string [] = None
behind_string (b ∷ []) = if b == 34 then Some [] else None
behind_string (b ∷ c ∷ bs) =
    if b == 34 then Some (c ∷ bs)
    else if b == 10 then None
    else if b == 92 then (if is_escape c then behind_string bs else None)
    else behind_string (c ∷ bs)

-- the bytes up to a rest, and one more before them
abbrev pub len_before : List ℕ → List ℕ → ℕ
len_before text rest = 1 + (length text - length rest)

-- a string, whose first quote stands before this text
unfoldable pub string_behind : List ℕ → Option Piece
string_behind text = option_map (λ rest. Token Str (len_before text rest)) (behind_string text)

-- a directive has all letters that stand behind its number sign
unfoldable pub directive_behind : List ℕ → Option Piece
directive_behind text = let len = prefix_len is_small_letter text in if len == 0 then None else Some (Token Directive (1 + len))

-- whether this byte is a sign
abbrev pub is_sign_of_one : ℕ → Bool
is_sign_of_one b = list_any (λ s. s == b) signs_of_one

-- whether these two bytes are a sign
abbrev pub is_sign_of_two : ℕ → ℕ → Bool
is_sign_of_two b c = list_any (λ s. bytes_eq s (b ∷ c ∷ [])) signs_of_two

-- a sign of one byte, if this is one
abbrev pub sign_of_one : ℕ → Option Piece
sign_of_one b = if is_sign_of_one b then Some (Token Sign 1) else None

-- a sign of two bytes comes before one of one byte
unfoldable pub sign_at : List ℕ → Option Piece
sign_at [] = None
sign_at (b ∷ []) = sign_of_one b
sign_at (b ∷ c ∷ bs) = if is_sign_of_two b c then Some (Token Sign 2) else sign_of_one b

-- the blank or the comment of this length, or else the token
abbrev pub gap_or : Option ℕ → Option Piece → Option Piece
gap_or None token = token
gap_or (Some len) token = Some (Gap len)

-- the token at the front of a text
unfoldable pub token_at : List ℕ → Option Piece
token_at [] = None
token_at (b ∷ bs) =
    if is_digit b then number_at (b ∷ bs)
    else if is_word_byte b then word_at (b ∷ bs)
    else if b == 34 then string_behind bs
    else if b == 35 then directive_behind bs
    else sign_at (b ∷ bs)

-- the piece at the front of a text
unfoldable pub piece_at : List ℕ → Option Piece
piece_at text = gap_or (gap_at text) (token_at text)
