-- A token begins and ends at the boundary of a character.
use Rattle.std.proofs.Common.{◌≡◌, ℕ, suc, ◌+◌, ◌-◌, ◌<◌, Bool, true, false, true≢false, ◌&&◌, eqb, List, [], ◌∷◌, ◌++◌, length, drop, get_or, refl, sym, ap, ◌∙◌, subst, ⊎_elim, codes, lit<, add-zero, arith}
use Rattle.std.proofs.lemmas.Bool.{and_parts, and_from, or_cases, eqb-true, ltb-true}
use Rattle.std.proofs.lemmas.Bool.Decides.{nat_tests}
use Rattle.std.proofs.lemmas.List.{get_or-drop, get_or_append_left}
use Rattle.std.proofs.lemmas.List.Sums.{AllPass-from_list_all}
use Rattle.std.proofs.lemmas.Slice.Eq.{bytes_eq-Decides}
use Rattle.std.proofs.lemmas.Str.{IsCharBoundary-after_ascii, IsCharBoundary-before_ascii}
use Rattle.std.specs.List.{list_all}
use Rattle.std.specs.Str.{IsCharBoundary, IsUtf8, bytes_eq}
use Rattle.ap_lex.specs.Bytes.{begins_with, is_between, is_capital_letter, is_digit, is_small_letter, is_word_byte}
use Rattle.ap_lex.specs.Forms.{is_directive, is_escape, is_number, is_numeral, is_plain, is_quoted, is_sign, is_token, is_word}
use Rattle.ap_lex.specs.Tokens.{IsToken}
use Rattle.ap_lex.specs.declared.token.Kind.{Kind}
use Rattle.ap_lex.specs.declared.token.Kind.TheVariants.{Num, Ident, Not, Var, Any, Str, Directive, Sign}
use Rattle.ap_lex.proofs.SignLemmas.{is_ascii, no_longer_sign, one_is_ascii, two_are_ascii}
use Rattle.ap_lex.proofs.StandsLemmas.{stands_at, token_is_proper}
use Rattle.ap_lex.proofs.StringLemmas.{chosen}
use Rattle.ap_lex.proofs.WordLemmas.{capital_is_word_byte, small_is_word_byte, word_passes}

-- the first and the last byte are ASCII
pub record EndsInAscii (bytes : List ℕ) : Type 0 where
  pub first : get_or bytes 0 0 < 128
  pub last : get_or bytes (length bytes - 1) 0 < 128

all_ascii : (p : ℕ → Bool) → ((b : ℕ) → p b ≡ true → b < 128) → (bytes : List ℕ) → 0 < length bytes → list_all p bytes ≡ true → EndsInAscii bytes
all_ascii p ascii bytes some passes =
    let each = AllPass-from_list_all p bytes passes in
    record { first = ascii _ (each 0 0 some); last = ascii _ (each (length bytes - 1) 0 (omega arith)) }

digit_is_ascii : (b : ℕ) → is_digit b ≡ true → b < 128
digit_is_ascii b h = grind (arith, nat_tests)

word_byte_is_ascii : (b : ℕ) → is_word_byte b ≡ true → b < 128
word_byte_is_ascii b h = grind (arith, nat_tests)

small_letter_is_ascii : (b : ℕ) → is_small_letter b ≡ true → b < 128
small_letter_is_ascii b h = grind (arith, nat_tests)

-- a last byte stays the last behind others
last_behind : (b c : ℕ) (bs : List ℕ) → get_or (b ∷ c ∷ bs) (length (b ∷ c ∷ bs) - 1) 0 ≡ get_or (c ∷ bs) (length (c ∷ bs) - 1) 0
last_behind b c bs =
    let one : length (b ∷ c ∷ bs) - 1 ≡ suc (length bs) = omega arith in
    let two : length (c ∷ bs) - 1 ≡ length bs = omega arith in
    ap (λ n. get_or (b ∷ c ∷ bs) n 0) one ∙ sym (ap (λ n. get_or (c ∷ bs) n 0) two)

quoted_last : (bs : List ℕ) → is_quoted bs ≡ true → get_or bs (length bs - 1) 0 ≡ 34
quoted_last [] h = absurd (true≢false (sym h))
quoted_last (b ∷ []) h = eqb-true b 34 h
quoted_last (b ∷ c ∷ []) h =
    ⊎_elim (λ w. absurd (true≢false (sym (and_parts (is_escape c) false w.1).1)))
    (λ w. last_behind b c [] ∙ quoted_last (c ∷ []) (and_parts (is_plain b) (is_quoted (c ∷ [])) w.1).1)
    (chosen (eqb b 92) (is_escape c && false) (is_plain b && is_quoted (c ∷ [])) true h)
quoted_last (b ∷ c ∷ d ∷ bs) h =
    ⊎_elim (λ w. last_behind b c (d ∷ bs) ∙ last_behind c d bs ∙ quoted_last (d ∷ bs) (and_parts (is_escape c) (is_quoted (d ∷ bs)) w.1).1)
    (λ w. last_behind b c (d ∷ bs) ∙ quoted_last (c ∷ d ∷ bs) (and_parts (is_plain b) (is_quoted (c ∷ d ∷ bs)) w.1).1)
    (chosen (eqb b 92) (is_escape c && is_quoted (d ∷ bs)) (is_plain b && is_quoted (c ∷ d ∷ bs)) true h)

string_ends : (b : ℕ) (bs : List ℕ) → is_token Str (b ∷ bs) [] ≡ true → EndsInAscii (b ∷ bs)
string_ends b [] h = absurd (true≢false (sym (and_parts (eqb b 34) false h).1))
string_ends b (c ∷ bs) h =
    let parts = and_parts (eqb b 34) (is_quoted (c ∷ bs)) h in
    let last : get_or (b ∷ c ∷ bs) (length (b ∷ c ∷ bs) - 1) 0 ≡ 34 = last_behind b c bs ∙ quoted_last (c ∷ bs) parts.1 in
    record { first = omega (arith, eqb-true b 34 parts.0); last = omega arith }

sign_ends : (bytes : List ℕ) → is_sign bytes ≡ true → EndsInAscii bytes
sign_ends [] h = absurd (true≢false (sym h))
sign_ends (b ∷ []) h = all_ascii is_ascii (λ c e. ltb-true c 128 e) (b ∷ []) (omega arith) (and_from (is_ascii b) true (one_is_ascii b h) refl)
sign_ends (b ∷ c ∷ []) h = all_ascii is_ascii (λ c e. ltb-true c 128 e) (b ∷ c ∷ []) (omega arith) (two_are_ascii b c h)
sign_ends (b ∷ c ∷ d ∷ bs) h = absurd (no_longer_sign b c d bs h)

word_ends : (is_letter : ℕ → Bool) → ((b : ℕ) → is_letter b ≡ true → is_word_byte b ≡ true) → (bytes : List ℕ) → 0 < length bytes → is_word is_letter bytes ≡ true → EndsInAscii bytes
word_ends is_letter word_byte bytes some h = all_ascii is_word_byte word_byte_is_ascii bytes some (word_passes is_letter word_byte bytes h)

known_ends : (bytes known : List ℕ) → bytes_eq bytes known ≡ true → EndsInAscii known → EndsInAscii bytes
known_ends bytes known h ends = subst EndsInAscii (sym ((bytes_eq-Decides bytes known).0 h)) ends

numeral_ends : (bytes : List ℕ) → 0 < length bytes → is_numeral bytes ≡ true → EndsInAscii bytes
numeral_ends bytes some h =
    ⊎_elim (λ e. known_ends bytes (codes "0") e (record { first = lit< tt; last = lit< tt }))
    (λ e. all_ascii is_digit digit_is_ascii bytes some (and_parts (begins_with (is_between 49 57) bytes) (list_all is_digit bytes) e).1)
    (or_cases (bytes_eq bytes (codes "0")) (begins_with (is_between 49 57) bytes && list_all is_digit bytes) h)

directive_ends : (bytes : List ℕ) → is_directive bytes ≡ true → EndsInAscii bytes
directive_ends [] h = absurd (true≢false (sym h))
directive_ends (b ∷ []) h = absurd (true≢false (sym h))
directive_ends (b ∷ c ∷ bs) h =
    let parts = and_parts (eqb b 35) (list_all is_small_letter (c ∷ bs)) h in
    let letters = all_ascii is_small_letter small_letter_is_ascii (c ∷ bs) (omega arith) parts.1 in
    record { first = omega (arith, eqb-true b 35 parts.0); last = omega (arith, letters.last, last_behind b c bs) }

token_ends : (kind : Kind) (b : ℕ) (bs rest : List ℕ) → is_token kind (b ∷ bs) rest ≡ true → EndsInAscii (b ∷ bs)
token_ends Num b bs rest h = numeral_ends (b ∷ bs) (omega arith) (and_parts (is_numeral (b ∷ bs)) _ (and_parts (is_number (b ∷ bs)) _ h).0).0
token_ends Ident b bs rest h = word_ends is_small_letter small_is_word_byte (b ∷ bs) (omega arith) (and_parts (is_word is_small_letter (b ∷ bs)) _ h).0
token_ends Not b bs rest h = known_ends (b ∷ bs) (codes "not") h (record { first = lit< tt; last = lit< tt })
token_ends Var b bs rest h = word_ends is_capital_letter capital_is_word_byte (b ∷ bs) (omega arith) h
token_ends Any b bs rest h = known_ends (b ∷ bs) (codes "_") (and_parts (bytes_eq (b ∷ bs) (codes "_")) _ h).0 (record { first = lit< tt; last = lit< tt })
token_ends Str b bs rest h = string_ends b bs h
token_ends Directive b bs rest h = directive_ends (b ∷ bs) h
token_ends Sign b bs rest h = sign_ends (b ∷ bs) h

ends : (kind : Kind) (bytes rest : List ℕ) → is_token kind bytes rest ≡ true → EndsInAscii bytes
ends kind [] rest h = absurd (true≢false (sym h ∙ token_is_proper kind rest))
ends kind (b ∷ bs) rest h = token_ends kind b bs rest h

-- the byte of a text at a place from which these bytes stand
byte_at : (text bytes rest : List ℕ) (from i : ℕ) → drop from text ≡ bytes ++ rest → i < length bytes → get_or text (from + i) 0 ≡ get_or bytes i 0
byte_at text bytes rest from i e inside = sym (get_or-drop from text i 0) ∙ ap (λ bs. get_or bs i 0) e ∙ get_or_append_left bytes rest 0 i inside

pub token_boundaries : (text : List ℕ) (kind : Kind) (from to : ℕ) → IsUtf8 text → IsToken text kind from to → IsCharBoundary text from × IsCharBoundary text to
token_boundaries text kind from to utf8 t =
    let at = stands_at (is_token kind) (token_is_proper kind) text from to t.within t.form in
    let s = at.1 in
    let below = at.0 in
    let within = t.within in
    let len = s.len_is in
    let ascii = ends kind s.bytes s.rest s.has_form in
    let first = rw add-zero at (byte_at text s.bytes s.rest from 0 s.split (omega arith)) in
    let place : from + (length s.bytes - 1) ≡ to - 1 = omega arith in
    let last = rw place at (byte_at text s.bytes s.rest from (length s.bytes - 1) s.split (omega arith)) in
    let behind : (to - 1) + 1 ≡ to = omega arith in (
      IsCharBoundary-before_ascii text from (omega arith) (omega (arith, first, ascii.first)),
      subst (λ n. IsCharBoundary text n) behind (IsCharBoundary-after_ascii text (to - 1) utf8 (omega arith) (omega (arith, last, ascii.last))),
    )
