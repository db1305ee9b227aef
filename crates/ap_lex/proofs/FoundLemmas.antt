-- Each token that stands at the front of a text is found, or a longer one.
use Rattle.std.proofs.Common.{◌≡◌, ℕ, ◌+◌, ◌≤◌, true, false, true≢false, not, cond, ◌&&◌, eqb, List, [], ◌∷◌, ◌++◌, length, take, refl, sym, ap, ◌∙◌, ⊎_elim, None, Some, codes, arith}
use Rattle.std.proofs.lemmas.Bool.{and_parts, or_cases, not-true, eqb-true, cond-true, cond-false, ne_eqb, cases_Bool}
use Rattle.std.proofs.lemmas.List.{append-nil, length-append}
use Rattle.std.proofs.Math.Seq.{take-append-add}
use Rattle.std.proofs.lemmas.Slice.Eq.{bytes_eq-Decides}
use Rattle.std.specs.List.{list_all, prefix_len}
use Rattle.std.specs.Str.{bytes_eq}
use Rattle.ap_lex.specs.Bytes.{begins_with, is_between, is_capital_letter, is_digit, is_small_letter, is_word_byte}
use Rattle.ap_lex.specs.Forms.{is_number, is_numeral, is_quoted, is_token, is_word}
use Rattle.ap_lex.specs.Pieces.{behind_string, directive_behind, first_letter, is_sign_of_one, is_sign_of_two, len_before, number_at, sign_at, sign_of_one, string_behind, token_at, token_of_len, word_at, word_kind}
use Rattle.ap_lex.specs.declared.pieces.Piece.TheVariants.{Token}
use Rattle.ap_lex.specs.declared.token.Kind.{Kind}
use Rattle.ap_lex.specs.declared.token.Kind.TheVariants.{Num, Ident, Not, Var, Any, Str, Directive, Sign}
use Rattle.ap_lex.proofs.FrontLemmas.{front_is, front_more, take_front}
use Rattle.ap_lex.proofs.SignLemmas.{BeginsSign, no_longer_sign, one_begins, two_begins}
use Rattle.ap_lex.proofs.StringLemmas.{string_found}
use Rattle.ap_lex.proofs.WordLemmas.{capital_is_no_digit, capital_is_word_byte, capital_is_not_small, small_is_no_digit, small_is_word_byte, word_letter, word_passes, word_start}

-- A token is found at the front of the text that is at least so long, and is of this kind if it is no longer.
pub record Finds (text : List ℕ) (kind : Kind) (len : ℕ) : Type 0 where
  pub found_kind : Kind
  pub found_len : ℕ
  pub found : token_at text ≡ Some (Token found_kind found_len)
  pub enough : len ≤ found_len
  pub same : found_len ≡ len → found_kind ≡ kind

exactly : (text : List ℕ) (kind : Kind) (len : ℕ) → token_at text ≡ Some (Token kind len) → Finds text kind len
exactly text kind len e = record { found_kind = kind; found_len = len; found = e; enough = omega arith; same = λ _. refl }

-- ---- by the first byte

at_digit : (b : ℕ) (bs : List ℕ) → is_digit b ≡ true → token_at (b ∷ bs) ≡ number_at (b ∷ bs)
unfolding token_at
at_digit b bs digit = rw digit refl

at_word : (b : ℕ) (bs : List ℕ) → is_word_byte b ≡ true → is_digit b ≡ false → token_at (b ∷ bs) ≡ word_at (b ∷ bs)
unfolding token_at
at_word b bs word digit = rw (word, digit) refl

at_quote : (bs : List ℕ) → token_at (34 ∷ bs) ≡ string_behind bs
unfolding token_at
at_quote bs = refl

at_number_sign : (bs : List ℕ) → token_at (35 ∷ bs) ≡ directive_behind bs
unfolding token_at
at_number_sign bs = refl

at_sign : (b : ℕ) (bs : List ℕ) → BeginsSign b → token_at (b ∷ bs) ≡ sign_at (b ∷ bs)
unfolding token_at
at_sign b bs begins = rw (begins.word, begins.digit, begins.quote, begins.number_sign) refl

-- ---- numbers

numeral_start : (b : ℕ) (bs : List ℕ) → is_numeral (b ∷ bs) ≡ true → (is_digit b ≡ true) × (list_all is_digit (b ∷ bs) ≡ true)
numeral_start b bs h =
    ⊎_elim (λ e. let zero : b ∷ bs ≡ codes "0" = (bytes_eq-Decides (b ∷ bs) (codes "0")).0 e in
    let first : b ≡ 48 = cc in
    let rest : bs ≡ [] = cc in
    rw (first, rest) (refl, refl))
    (λ e. let parts = and_parts (begins_with (is_between 49 57) (b ∷ bs)) (list_all is_digit (b ∷ bs)) e in
    ((and_parts (is_digit b) (list_all is_digit bs) parts.1).0, parts.1))
    (or_cases (bytes_eq (b ∷ bs) (codes "0")) (begins_with (is_between 49 57) (b ∷ bs) && list_all is_digit (b ∷ bs)) h)

number_is : (bytes rest : List ℕ) → list_all is_digit bytes ≡ true → begins_with is_digit rest ≡ false → is_number bytes ≡ true → number_at (bytes ++ rest) ≡ Some (Token Num (length bytes))
unfolding number_at
number_is bytes rest passes stops number = rw (take_front is_digit bytes rest passes stops, number, front_is is_digit bytes rest passes stops) refl

number_found : (bytes rest : List ℕ) → is_token Num bytes rest ≡ true → Finds (bytes ++ rest) Num (length bytes)
number_found [] rest h = absurd (true≢false (sym h))
number_found (b ∷ bs) rest h =
    let parts = and_parts (is_number (b ∷ bs)) (not (begins_with is_digit rest)) h in
    let start = numeral_start b bs (and_parts (is_numeral (b ∷ bs)) _ parts.0).0 in
    exactly ((b ∷ bs) ++ rest) Num (length (b ∷ bs))
    (at_digit b (bs ++ rest) start.0 ∙ number_is (b ∷ bs) rest start.1 (not-true _ parts.1) parts.0)

-- ---- words

-- the bytes of a word behind these
abbrev more_of : List ℕ → List ℕ
more_of rest = take (prefix_len is_word_byte rest) rest

word_is : (bytes rest : List ℕ) → list_all is_word_byte bytes ≡ true
    → word_at (bytes ++ rest) ≡ token_of_len (length bytes + prefix_len is_word_byte rest) (word_kind (bytes ++ more_of rest))
unfolding word_at
word_is bytes rest passes =
    rw (front_more is_word_byte bytes rest passes, take-append-add bytes rest (prefix_len is_word_byte rest)) refl

no_any : (word : List ℕ) (b : ℕ) → first_letter word ≡ Some b → bytes_eq word (codes "_") ≡ false
no_any word b first =
    ⊎_elim (λ e. let same : first_letter word ≡ None = ap first_letter ((bytes_eq-Decides word (codes "_")).0 e) in absurd cc) (λ e. e) (cases_Bool (bytes_eq word (codes "_")))

small_kind : (word : List ℕ) (b : ℕ) → first_letter word ≡ Some b → is_small_letter b ≡ true → word_kind word ≡ cond (bytes_eq word (codes "not")) (Some Not) (Some Ident)
unfolding word_kind
small_kind word b first letter = rw (no_any word b first, first, letter) refl

capital_kind : (word : List ℕ) (b : ℕ) → first_letter word ≡ Some b → is_capital_letter b ≡ true → word_kind word ≡ Some Var
unfolding word_kind
capital_kind word b first letter =
    let no_not : bytes_eq word (codes "not") ≡ false =
    ⊎_elim (λ e. let same : first_letter word ≡ Some 110 = ap first_letter ((bytes_eq-Decides word (codes "not")).0 e) in
    let n : b ≡ 110 = cc in
    absurd (true≢false (sym letter ∙ ap is_capital_letter n))) (λ e. e) (cases_Bool (bytes_eq word (codes "not"))) in
    rw (no_not, no_any word b first, first, capital_is_not_small b letter, letter) refl

-- with nothing more behind it the word is these bytes
no_more : (bytes rest : List ℕ) → length bytes + prefix_len is_word_byte rest ≡ length bytes → bytes ++ more_of rest ≡ bytes
no_more bytes rest e =
    let zero : prefix_len is_word_byte rest ≡ 0 = omega arith in
    rw zero (append-nil bytes)

word_finds : (bytes rest : List ℕ) (kind found_kind : Kind) → token_at (bytes ++ rest) ≡ word_at (bytes ++ rest) → list_all is_word_byte bytes ≡ true
    → word_kind (bytes ++ more_of rest) ≡ Some found_kind → (bytes ++ more_of rest ≡ bytes → found_kind ≡ kind) → Finds (bytes ++ rest) kind (length bytes)
word_finds bytes rest kind found_kind at passes is same = record {
  found_kind = found_kind;
  found_len = length bytes + prefix_len is_word_byte rest;
  found = at ∙ word_is bytes rest passes ∙ ap (token_of_len (length bytes + prefix_len is_word_byte rest)) is;
  enough = omega arith;
  same = λ e. same (no_more bytes rest e);
}

small_finds : (bytes rest : List ℕ) (kind : Kind) (b : ℕ) → token_at (bytes ++ rest) ≡ word_at (bytes ++ rest) → list_all is_word_byte bytes ≡ true
    → first_letter (bytes ++ more_of rest) ≡ Some b → is_small_letter b ≡ true
    → (bytes_eq bytes (codes "not") ≡ true → Not ≡ kind) → (bytes_eq bytes (codes "not") ≡ false → Ident ≡ kind) → Finds (bytes ++ rest) kind (length bytes)
small_finds bytes rest kind b at passes first letter as_not as_ident =
    let word = bytes ++ more_of rest in
    let is = small_kind word b first letter in
    ⊎_elim (λ e. word_finds bytes rest kind Not at passes (is ∙ cond-true _ _ _ e) (λ same. as_not (ap (λ bs. bytes_eq bs (codes "not")) (sym same) ∙ e)))
    (λ e. word_finds bytes rest kind Ident at passes (is ∙ cond-false _ _ _ e) (λ same. as_ident (ap (λ bs. bytes_eq bs (codes "not")) (sym same) ∙ e)))
    (cases_Bool (bytes_eq word (codes "not")))

identifier_found : (bytes rest : List ℕ) → is_token Ident bytes rest ≡ true → Finds (bytes ++ rest) Ident (length bytes)
identifier_found [] rest h = absurd (true≢false (sym h))
identifier_found (b ∷ bs) rest h =
    let parts = and_parts (is_word is_small_letter (b ∷ bs)) (not (bytes_eq (b ∷ bs) (codes "not"))) h in
    let start = word_start is_small_letter small_is_word_byte b bs small_is_no_digit parts.0 in
    let first = word_letter is_small_letter small_is_word_byte (b ∷ bs) (more_of rest) parts.0 in
    small_finds (b ∷ bs) rest Ident first.0 (at_word b (bs ++ rest) start.0 start.1) (word_passes is_small_letter small_is_word_byte (b ∷ bs) parts.0) first.1 first.2
    (λ e. absurd (true≢false (sym e ∙ not-true _ parts.1))) (λ _. refl)

not_found : (bytes rest : List ℕ) → is_token Not bytes rest ≡ true → Finds (bytes ++ rest) Not (length bytes)
not_found bytes rest h =
    rw ((bytes_eq-Decides bytes (codes "not")).0 h)
    (small_finds (codes "not") rest Not 110 (at_word 110 _ refl refl) refl refl refl (λ _. refl) (λ e. absurd (true≢false e)))

variable_found : (bytes rest : List ℕ) → is_token Var bytes rest ≡ true → Finds (bytes ++ rest) Var (length bytes)
variable_found [] rest h = absurd (true≢false (sym h))
variable_found (b ∷ bs) rest h =
    let start = word_start is_capital_letter capital_is_word_byte b bs capital_is_no_digit h in
    let first = word_letter is_capital_letter capital_is_word_byte (b ∷ bs) (more_of rest) h in
    word_finds (b ∷ bs) rest Var Var (at_word b (bs ++ rest) start.0 start.1) (word_passes is_capital_letter capital_is_word_byte (b ∷ bs) h)
    (capital_kind ((b ∷ bs) ++ more_of rest) first.0 first.1 first.2) (λ _. refl)

any_kind : word_kind (codes "_") ≡ Some Any
unfolding word_kind
any_kind = refl

any_found : (bytes rest : List ℕ) → is_token Any bytes rest ≡ true → Finds (bytes ++ rest) Any (length bytes)
any_found bytes rest h =
    let parts = and_parts (bytes_eq bytes (codes "_")) (not (begins_with is_word_byte rest)) h in
    let alone : codes "_" ++ more_of rest ≡ codes "_" =
    ap (λ n. 95 ∷ take n rest) (front_is is_word_byte [] rest refl (not-true _ parts.1)) in
    rw ((bytes_eq-Decides bytes (codes "_")).0 parts.0)
    (word_finds (codes "_") rest Any Any (at_word 95 _ refl refl) refl (ap word_kind alone ∙ any_kind) (λ _. refl))

-- ---- strings, directives and signs

string_is : (bs rest : List ℕ) → behind_string (bs ++ rest) ≡ Some rest → string_behind (bs ++ rest) ≡ Some (Token Str (length (34 ∷ bs)))
unfolding string_behind
string_is bs rest e =
    let len : len_before (bs ++ rest) rest ≡ length (34 ∷ bs) = omega (arith, length-append bs rest) in
    rw e (ap (λ n. Some (Token Str n)) len)

text_found : (bytes rest : List ℕ) → is_token Str bytes rest ≡ true → Finds (bytes ++ rest) Str (length bytes)
text_found [] rest h = absurd (true≢false (sym h))
text_found (b ∷ bs) rest h =
    let parts = and_parts (eqb b 34) (is_quoted bs) h in
    rw (eqb-true b 34 parts.0) (exactly (34 ∷ (bs ++ rest)) Str (length (34 ∷ bs)) (at_quote (bs ++ rest) ∙ string_is bs rest (string_found bs rest parts.1)))

directive_is : (b : ℕ) (bs rest : List ℕ) → list_all is_small_letter (b ∷ bs) ≡ true
    → directive_behind ((b ∷ bs) ++ rest) ≡ Some (Token Directive (1 + (length (b ∷ bs) + prefix_len is_small_letter rest)))
unfolding directive_behind
directive_is b bs rest passes =
    let some : eqb (length (b ∷ bs) + prefix_len is_small_letter rest) 0 ≡ false = ne_eqb _ _ (λ e. omega arith) in
    rw (front_more is_small_letter (b ∷ bs) rest passes, some) refl

directive_found : (bytes rest : List ℕ) → is_token Directive bytes rest ≡ true → Finds (bytes ++ rest) Directive (length bytes)
directive_found [] rest h = absurd (true≢false (sym h))
directive_found (b ∷ []) rest h = absurd (true≢false (sym h))
directive_found (b ∷ c ∷ bs) rest h =
    let parts = and_parts (eqb b 35) (list_all is_small_letter (c ∷ bs)) h in
    rw (eqb-true b 35 parts.0) (record {
      found_kind = Directive;
      found_len = 1 + (length (c ∷ bs) + prefix_len is_small_letter rest);
      found = at_number_sign ((c ∷ bs) ++ rest) ∙ directive_is c bs rest parts.1;
      enough = omega arith;
      same = λ _. refl;
    })

sign_finds : (text : List ℕ) (len found_len : ℕ) → token_at text ≡ Some (Token Sign found_len) → len ≤ found_len → Finds text Sign len
sign_finds text len found_len e enough = record { found_kind = Sign; found_len = found_len; found = e; enough = enough; same = λ _. refl }

one_is : (b : ℕ) (rest : List ℕ) → is_sign_of_one b ≡ true → Finds (b ∷ rest) Sign 1
unfolding sign_at
one_is b [] h = sign_finds (b ∷ []) 1 1 (at_sign b [] (one_begins b h) ∙ rw h refl) (omega arith)
one_is b (c ∷ rest) h =
    ⊎_elim (λ e. sign_finds (b ∷ c ∷ rest) 1 2 (at_sign b (c ∷ rest) (one_begins b h) ∙ rw e refl) (omega arith))
    (λ e. sign_finds (b ∷ c ∷ rest) 1 1 (at_sign b (c ∷ rest) (one_begins b h)
    ∙ cond-false (is_sign_of_two b c) (Some (Token Sign 2)) (sign_of_one b) e ∙ cond-true (is_sign_of_one b) (Some (Token Sign 1)) None h) (omega arith))
    (cases_Bool (is_sign_of_two b c))

two_is : (b c : ℕ) (rest : List ℕ) → is_sign_of_two b c ≡ true → Finds (b ∷ c ∷ rest) Sign 2
unfolding sign_at
two_is b c rest h = sign_finds (b ∷ c ∷ rest) 2 2 (at_sign b (c ∷ rest) (two_begins b c h) ∙ rw h refl) (omega arith)

sign_found : (bytes rest : List ℕ) → is_token Sign bytes rest ≡ true → Finds (bytes ++ rest) Sign (length bytes)
sign_found [] rest h = absurd (true≢false (sym h))
sign_found (b ∷ []) rest h = one_is b rest h
sign_found (b ∷ c ∷ []) rest h = two_is b c rest h
sign_found (b ∷ c ∷ d ∷ bs) rest h = absurd (no_longer_sign b c d bs h)

-- ---- all kinds

pub token_found : (kind : Kind) (bytes rest : List ℕ) → is_token kind bytes rest ≡ true → Finds (bytes ++ rest) kind (length bytes)
token_found Num bytes rest h = number_found bytes rest h
token_found Ident bytes rest h = identifier_found bytes rest h
token_found Not bytes rest h = not_found bytes rest h
token_found Var bytes rest h = variable_found bytes rest h
token_found Any bytes rest h = any_found bytes rest h
token_found Str bytes rest h = text_found bytes rest h
token_found Directive bytes rest h = directive_found bytes rest h
token_found Sign bytes rest h = sign_found bytes rest h
