-- Tokens read back: where what follows cannot go on with them.
use Rattle.std.proofs.Common.{◌≡◌, ℕ, ◌+◌, true, false, List, [], ◌∷◌, ◌++◌, length, refl, sym, ap, ◌∙◌, None, Some, arith, if◌then◌else◌}
use Rattle.std.proofs.lemmas.Bool.{and_parts}
use Rattle.std.proofs.lemmas.List.{append-nil, length-append}
use Rattle.std.specs.List.{list_all}
use Rattle.ap_lex.specs.Bytes.{begins_with, is_digit, is_word_byte}
use Rattle.ap_lex.specs.Forms.{is_number, is_quoted, is_token}
use Rattle.ap_lex.specs.Pieces.{number_at, string_behind, token_at, token_of_len, word_at, word_kind}
use Rattle.ap_lex.specs.declared.pieces.Piece.TheVariants.{Token}
use Rattle.ap_lex.specs.declared.token.Kind.{Kind}
use Rattle.ap_lex.specs.declared.token.Kind.TheVariants.{Num, Str}
use Rattle.ap_lex.proofs.FrontLemmas.{front_is, take_front}
use Rattle.ap_lex.proofs.FoundLemmas.{token_found}
use Rattle.ap_lex.proofs.SoundLemmas.{token_stands}
use Rattle.ap_lex.proofs.StringLemmas.{string_found}

-- no word goes on here
abbrev pub Ends : List ℕ → Type 0
Ends rest = begins_with is_word_byte rest ≡ false

-- all of these bytes are one token
abbrev pub IsOneToken : List ℕ → Kind → Type 0
IsOneToken bytes kind = token_at bytes ≡ Some (Token kind (length bytes))

-- and so they are in front of this rest
abbrev pub Apart : List ℕ → List ℕ → Type 0
Apart bytes rest = token_at (bytes ++ rest) ≡ token_at bytes

-- ---- words

at_word : (b : ℕ) (bs : List ℕ) → is_word_byte b ≡ true → is_digit b ≡ false → token_at (b ∷ bs) ≡ word_at (b ∷ bs)
unfolding token_at
at_word b bs word digit = rw (word, digit) refl

word_alone : (bytes rest : List ℕ) → list_all is_word_byte bytes ≡ true → Ends rest → word_at (bytes ++ rest) ≡ token_of_len (length bytes) (word_kind bytes)
unfolding word_at
word_alone bytes rest passes ends = rw (take_front is_word_byte bytes rest passes ends, front_is is_word_byte bytes rest passes ends) refl

-- word bytes that do not begin with a digit
pub word_apart : (b : ℕ) (bs rest : List ℕ) → list_all is_word_byte (b ∷ bs) ≡ true → is_digit b ≡ false → Ends rest → Apart (b ∷ bs) rest
word_apart b bs rest passes digit ends =
    let first = (and_parts (is_word_byte b) (list_all is_word_byte bs) passes).0 in
    at_word b (bs ++ rest) first digit ∙ word_alone (b ∷ bs) rest passes ends
    ∙ sym (at_word b bs first digit ∙ (let q = word_alone (b ∷ bs) [] passes refl in rw (append-nil bs) at q))

-- ---- numbers

at_digit : (b : ℕ) (bs : List ℕ) → is_digit b ≡ true → token_at (b ∷ bs) ≡ number_at (b ∷ bs)
unfolding token_at
at_digit b bs digit = rw digit refl

digit_is_word_byte : (b : ℕ) → is_word_byte b ≡ false → is_digit b ≡ false
digit_is_word_byte b h = grind (arith)

digits_end : (rest : List ℕ) → Ends rest → begins_with is_digit rest ≡ false
digits_end [] h = refl
digits_end (b ∷ bs) h = digit_is_word_byte b h

number_alone : (bytes rest : List ℕ) → list_all is_digit bytes ≡ true → Ends rest → number_at (bytes ++ rest) ≡ (if is_number bytes then Some (Token Num (length bytes)) else None)
unfolding number_at
number_alone bytes rest passes ends =
    let stops = digits_end rest ends in
    rw (take_front is_digit bytes rest passes stops, front_is is_digit bytes rest passes stops) refl

pub digits_apart : (b : ℕ) (bs rest : List ℕ) → list_all is_digit (b ∷ bs) ≡ true → Ends rest → Apart (b ∷ bs) rest
digits_apart b bs rest passes ends =
    let first = (and_parts (is_digit b) (list_all is_digit bs) passes).0 in
    at_digit b (bs ++ rest) first ∙ number_alone (b ∷ bs) rest passes ends
    ∙ sym (at_digit b bs first ∙ (let q = number_alone (b ∷ bs) [] passes refl in rw (append-nil bs) at q))

-- ---- strings

at_quote : (bs : List ℕ) → token_at (34 ∷ bs) ≡ string_behind bs
unfolding token_at
at_quote bs = refl

string_alone : (bs rest : List ℕ) → is_quoted bs ≡ true → string_behind (bs ++ rest) ≡ Some (Token Str (1 + length bs))
unfolding string_behind
string_alone bs rest quoted = rw (string_found bs rest quoted) (ap (λ n. Some (Token Str n)) (omega (arith, length-append bs rest)))

pub string_apart : (bs rest : List ℕ) → is_quoted bs ≡ true → Apart (34 ∷ bs) rest
string_apart bs rest quoted = at_quote (bs ++ rest) ∙ string_alone bs rest quoted ∙ sym (at_quote bs ∙ (let q = string_alone bs [] quoted in rw (append-nil bs) at q))

-- ---- a token that stands alone

pub alone : (kind : Kind) (bytes : List ℕ) → is_token kind bytes [] ≡ true → IsOneToken bytes kind
alone kind bytes h =
    let f = token_found kind bytes [] h in
    let stands = token_stands (bytes ++ []) (Token f.found_kind f.found_len) f.found in
    let len-is : stands.len ≡ f.found_len = let is = stands.is in cc in
    let split = stands.stands.split in
    let whole = ap length split in
    let same : f.found_len ≡ length bytes = omega (arith, whole, length-append bytes [], length-append stands.stands.bytes stands.stands.rest, stands.stands.len_is, f.enough) in
    let found = f.found in
    let kind_is = f.same same in
    rw (append-nil bytes, same, kind_is) at found
