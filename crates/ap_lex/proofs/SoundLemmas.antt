-- What is found at the front of a text stands there.
use Rattle.std.proofs.Common.{◌≡◌, ℕ, ◌+◌, Bool, true, false, true≢false, not, cond, ◌&&◌, ◌||◌, eqb, List, [], ◌∷◌, ◌++◌, length, take, drop, refl, sym, ap, subst, ⊎_elim, Option, None, Some, option_map, codes, arith}
use Rattle.std.proofs.lemmas.Bool.{and_parts, and_from, or_cases, or_left, or_right, ne_eqb, not-true, not_from_false, eqb-true, eqb-false}
use Rattle.std.proofs.lemmas.List.{take-append-drop, length-append}
use Rattle.std.proofs.lemmas.List.Folds.{length-prefix_len}
use Rattle.std.specs.List.{list_all, prefix_len}
use Rattle.std.specs.Str.{bytes_eq}
use Rattle.ap_lex.specs.Bytes.{begins_with, is_blank, is_capital_letter, is_digit, is_small_letter, is_word_byte}
use Rattle.ap_lex.specs.Forms.{is_comment, is_gap, is_number, is_token}
use Rattle.ap_lex.specs.Pieces.{behind_string, directive_behind, first_letter, gap_at, is_sign_of_one, is_sign_of_two, len_before, letter_kind, number_at, sign_at, sign_of_one, string_behind, token_at, token_of_len, word_at, word_kind}
use Rattle.ap_lex.specs.declared.pieces.Piece.{Piece}
use Rattle.ap_lex.specs.declared.pieces.Piece.TheVariants.{Token}
use Rattle.ap_lex.specs.declared.token.Kind.{Kind}
use Rattle.ap_lex.specs.declared.token.Kind.TheVariants.{Num, Ident, Not, Var, Any, Str, Directive, Sign}
use Rattle.ap_lex.proofs.FrontLemmas.{front_is, front_passes, rest_stops}
use Rattle.ap_lex.proofs.StandsLemmas.{Stands}
use Rattle.ap_lex.proofs.StringLemmas.{chosen, string_stands}
use Rattle.ap_lex.proofs.WordLemmas.{capital_is_word_byte, small_is_word_byte, word_from_letter}

-- The piece is a token that stands at the front of the text.
pub record TokenThere (text : List ℕ) (piece : Piece) : Type 0 where
  pub kind : Kind
  pub len : ℕ
  pub is : Token kind len ≡ piece
  pub stands : Stands (is_token kind) text len

nothing_there : (text : List ℕ) (piece : Piece) → None ≡ Some piece → TokenThere text piece
nothing_there text piece h = absurd cc

-- the longest front whose bytes pass a test
front_stands : (p : ℕ → Bool) (form : List ℕ → List ℕ → Bool) (text : List ℕ) → form (take (prefix_len p text) text) (drop (prefix_len p text) text) ≡ true → Stands form text (prefix_len p text)
front_stands p form text h = record {
  bytes = take (prefix_len p text) text;
  rest = drop (prefix_len p text) text;
  split = sym (take-append-drop (prefix_len p text) text);
  len_is = length-prefix_len p text;
  has_form = h;
}

token_there : (text : List ℕ) (kind : Kind) (len : ℕ) (piece : Piece) → Stands (is_token kind) text len → Some (Token kind len) ≡ Some piece → TokenThere text piece
token_there text kind len piece stands e = record { kind = kind; len = len; is = (let same : Token kind len ≡ piece = cc in same); stands = stands }

number_stands : (text : List ℕ) (piece : Piece) → number_at text ≡ Some piece → TokenThere text piece
unfolding number_at
number_stands text piece h =
    let len = prefix_len is_digit text in
    ⊎_elim (λ w. token_there text Num len piece (front_stands is_digit (is_token Num) text (and_from _ _ w.0 (not_from_false _ (rest_stops is_digit text)))) w.1)
    (λ w. nothing_there text piece w.1)
    (chosen (is_number (take len text)) (Some (Token Num len)) None (Some piece) h)

-- a word is of its kind
letter_form : (bytes rest : List ℕ) (kind : Kind) (o : Option ℕ) → list_all is_word_byte bytes ≡ true → bytes_eq bytes (codes "not") ≡ false
    → first_letter bytes ≡ o → letter_kind o ≡ Some kind → is_token kind bytes rest ≡ true
letter_form bytes rest kind None passes no_not e h = absurd cc
letter_form bytes rest kind (Some b) passes no_not e h =
    ⊎_elim (λ w. let same : Ident ≡ kind = (let i = w.1 in cc) in
    subst (λ k. is_token k bytes rest ≡ true) same (and_from _ _ (word_from_letter is_small_letter small_is_word_byte bytes b passes e w.0) (not_from_false _ no_not)))
    (λ v. ⊎_elim (λ w. let same : Var ≡ kind = (let i = w.1 in cc) in
    subst (λ k. is_token k bytes rest ≡ true) same (word_from_letter is_capital_letter capital_is_word_byte bytes b passes e w.0))
    (λ w. absurd (let i = w.1 in cc))
    (chosen (is_capital_letter b) (Some Var) None (Some kind) v.1))
    (chosen (is_small_letter b) (Some Ident) (cond (is_capital_letter b) (Some Var) None) (Some kind) h)

word_form : (bytes rest : List ℕ) (kind : Kind) → list_all is_word_byte bytes ≡ true → begins_with is_word_byte rest ≡ false → word_kind bytes ≡ Some kind → is_token kind bytes rest ≡ true
unfolding word_kind
word_form bytes rest kind passes stops h =
    ⊎_elim (λ w. let same : Not ≡ kind = (let i = w.1 in cc) in subst (λ k. is_token k bytes rest ≡ true) same w.0)
    (λ v. ⊎_elim (λ w. let same : Any ≡ kind = (let i = w.1 in cc) in subst (λ k. is_token k bytes rest ≡ true) same (and_from _ _ w.0 (not_from_false _ stops)))
    (λ w. letter_form bytes rest kind _ passes v.0 refl w.1)
    (chosen (bytes_eq bytes (codes "_")) (Some Any) (letter_kind (first_letter bytes)) (Some kind) v.1))
    (chosen (bytes_eq bytes (codes "not")) (Some Not) (cond (bytes_eq bytes (codes "_")) (Some Any) (letter_kind (first_letter bytes))) (Some kind) h)

word_stands_as : (text : List ℕ) (piece : Piece) (o : Option Kind) → word_kind (take (prefix_len is_word_byte text) text) ≡ o → token_of_len (prefix_len is_word_byte text) o ≡ Some piece → TokenThere text piece
word_stands_as text piece None e h = nothing_there text piece h
word_stands_as text piece (Some kind) e h =
    token_there text kind (prefix_len is_word_byte text) piece (front_stands is_word_byte (is_token kind) text (word_form _ _ kind (front_passes is_word_byte text) (rest_stops is_word_byte text) e)) h

word_stands : (text : List ℕ) (piece : Piece) → word_at text ≡ Some piece → TokenThere text piece
unfolding word_at
word_stands text piece h = word_stands_as text piece _ refl h

string_stands_as : (text : List ℕ) (piece : Piece) (o : Option (List ℕ)) → behind_string text ≡ o → option_map (λ rest. Token Str (len_before text rest)) o ≡ Some piece → TokenThere (34 ∷ text) piece
string_stands_as text piece None e h = nothing_there (34 ∷ text) piece h
string_stands_as text piece (Some rest) e h =
    let behind = string_stands text rest e in
    token_there (34 ∷ text) Str (len_before text rest) piece (record {
      bytes = 34 ∷ behind.bytes;
      rest = rest;
      split = ap (λ bs. 34 ∷ bs) behind.split;
      len_is = omega (arith, ap length behind.split, length-append behind.bytes rest);
      has_form = behind.quoted;
    }) h

text_stands : (text : List ℕ) (piece : Piece) → string_behind text ≡ Some piece → TokenThere (34 ∷ text) piece
unfolding string_behind
text_stands text piece h = string_stands_as text piece _ refl h

directive_form : (bytes rest : List ℕ) → list_all is_small_letter bytes ≡ true → eqb (length bytes) 0 ≡ false → is_token Directive (35 ∷ bytes) rest ≡ true
directive_form [] rest passes some = absurd (true≢false some)
directive_form (b ∷ bs) rest passes some = passes

directive_stands : (text : List ℕ) (piece : Piece) → directive_behind text ≡ Some piece → TokenThere (35 ∷ text) piece
unfolding directive_behind
directive_stands text piece h =
    let len = prefix_len is_small_letter text in
    ⊎_elim (λ w. nothing_there (35 ∷ text) piece w.1)
    (λ w. token_there (35 ∷ text) Directive (1 + len) piece (record {
      bytes = 35 ∷ take len text;
      rest = drop len text;
      split = ap (λ bs. 35 ∷ bs) (sym (take-append-drop len text));
      len_is = omega (arith, length-prefix_len is_small_letter text);
      has_form = directive_form (take len text) (drop len text) (front_passes is_small_letter text) (rw (length-prefix_len is_small_letter text) w.0);
    }) w.1)
    (chosen (eqb len 0) None (Some (Token Directive (1 + len))) (Some piece) h)

one_stands : (b : ℕ) (rest : List ℕ) (piece : Piece) → sign_of_one b ≡ Some piece → TokenThere (b ∷ rest) piece
one_stands b rest piece h =
    ⊎_elim (λ w. token_there (b ∷ rest) Sign 1 piece (record { bytes = b ∷ []; rest = rest; split = refl; len_is = refl; has_form = w.0 }) w.1)
    (λ w. nothing_there (b ∷ rest) piece w.1)
    (chosen (is_sign_of_one b) (Some (Token Sign 1)) None (Some piece) h)

sign_stands : (text : List ℕ) (piece : Piece) → sign_at text ≡ Some piece → TokenThere text piece
unfolding sign_at
sign_stands [] piece h = nothing_there [] piece h
sign_stands (b ∷ []) piece h = one_stands b [] piece h
sign_stands (b ∷ c ∷ bs) piece h =
    ⊎_elim (λ w. token_there (b ∷ c ∷ bs) Sign 2 piece (record { bytes = b ∷ c ∷ []; rest = bs; split = refl; len_is = refl; has_form = w.0 }) w.1)
    (λ w. one_stands b (c ∷ bs) piece w.1)
    (chosen (is_sign_of_two b c) (Some (Token Sign 2)) (sign_of_one b) (Some piece) h)

pub token_stands : (text : List ℕ) (piece : Piece) → token_at text ≡ Some piece → TokenThere text piece
unfolding token_at
token_stands [] piece h = nothing_there [] piece h
token_stands (b ∷ bs) piece h =
    let sign = sign_at (b ∷ bs) in
    let from_number_sign = cond (eqb b 35) (directive_behind bs) sign in
    let from_quote = cond (eqb b 34) (string_behind bs) from_number_sign in
    let from_word = cond (is_word_byte b) (word_at (b ∷ bs)) from_quote in
    ⊎_elim (λ w. number_stands (b ∷ bs) piece w.1)
    (λ v. ⊎_elim (λ w. word_stands (b ∷ bs) piece w.1)
    (λ u. ⊎_elim (λ w. rw (eqb-true b 34 w.0) (text_stands bs piece w.1))
    (λ t. ⊎_elim (λ w. rw (eqb-true b 35 w.0) (directive_stands bs piece w.1))
    (λ w. sign_stands (b ∷ bs) piece w.1)
    (chosen (eqb b 35) (directive_behind bs) sign (Some piece) t.1))
    (chosen (eqb b 34) (string_behind bs) from_number_sign (Some piece) u.1))
    (chosen (is_word_byte b) (word_at (b ∷ bs)) from_quote (Some piece) v.1))
    (chosen (is_digit b) (number_at (b ∷ bs)) from_word (Some piece) h)

-- ---- blanks and comments

abbrev is_star : ℕ → Bool
is_star c = eqb c 42

abbrev is_on_line : ℕ → Bool
is_on_line c = not (eqb c 10)

comment_is_gap : (b : ℕ) (bs rest : List ℕ) → is_comment (b ∷ bs) rest ≡ true → is_gap (b ∷ bs) rest ≡ true
comment_is_gap b [] rest h = or_right (is_blank b) (is_comment (b ∷ []) rest) h
comment_is_gap b (c ∷ bs) rest h = h

comment_from : (b : ℕ) (bs rest : List ℕ) → eqb b 37 ≡ true → not (begins_with is_star (bs ++ rest)) ≡ true → list_all is_on_line bs ≡ true → begins_with is_on_line rest ≡ false
    → is_comment (b ∷ bs) rest ≡ true
comment_from b bs rest percent no_star passes stops = and_from _ _ (and_from _ _ (and_from _ _ percent no_star) passes) (not_from_false _ stops)

pub gap_stands : (text : List ℕ) (len : ℕ) → gap_at text ≡ Some len → Stands is_gap text len
unfolding gap_at
gap_stands [] len h = absurd cc
gap_stands (b ∷ bs) len h =
    let n = prefix_len is_on_line bs in
    let whole = take-append-drop n bs in
    ⊎_elim (λ w. record { bytes = b ∷ []; rest = bs; split = refl; len_is = (let i = w.1 in cc); has_form = or_left (is_blank b) (is_comment (b ∷ []) bs) w.0 })
    (λ v. ⊎_elim (λ w. let parts = and_parts (eqb b 37) (not (begins_with is_star bs)) w.0 in
    record {
      bytes = b ∷ take n bs;
      rest = drop n bs;
      split = ap (λ cs. b ∷ cs) (sym whole);
      len_is = (let i : 1 + n ≡ len = (let j = w.1 in cc) in omega (arith, length-prefix_len is_on_line bs));
      has_form = comment_is_gap b (take n bs) (drop n bs)
          (comment_from b (take n bs) (drop n bs) parts.0 (rw whole parts.1) (front_passes is_on_line bs) (rest_stops is_on_line bs));
    })
    (λ w. absurd (let i = w.1 in cc))
    (chosen (eqb b 37 && not (begins_with is_star bs)) (Some (1 + n)) None (Some len) v.1))
    (chosen (is_blank b) (Some 1) (cond (eqb b 37 && not (begins_with is_star bs)) (Some (1 + n)) None) (Some len) h)

percent_found : (bs rest : List ℕ) → not (begins_with is_star (bs ++ rest)) ≡ true → list_all is_on_line bs ≡ true → begins_with is_on_line rest ≡ false
    → gap_at (37 ∷ (bs ++ rest)) ≡ Some (length (37 ∷ bs))
unfolding gap_at
percent_found bs rest no_star passes stops = rw no_star (ap Some (omega (arith, front_is is_on_line bs rest passes stops)))

comment_found : (b : ℕ) (bs rest : List ℕ) → is_comment (b ∷ bs) rest ≡ true → gap_at ((b ∷ bs) ++ rest) ≡ Some (length (b ∷ bs))
comment_found b bs rest h =
    let p = and_parts (eqb b 37 && not (begins_with is_star (bs ++ rest)) && list_all is_on_line bs) (not (begins_with is_on_line rest)) h in
    let q = and_parts (eqb b 37 && not (begins_with is_star (bs ++ rest))) (list_all is_on_line bs) p.0 in
    let r = and_parts (eqb b 37) (not (begins_with is_star (bs ++ rest))) q.0 in
    rw (eqb-true b 37 r.0) (percent_found bs rest r.1 q.1 (not-true _ p.1))

blank_found : (b : ℕ) (rest : List ℕ) → is_blank b ≡ true → gap_at (b ∷ rest) ≡ Some 1
unfolding gap_at
blank_found b rest h = rw h refl

pub gap_found : (bytes rest : List ℕ) → is_gap bytes rest ≡ true → gap_at (bytes ++ rest) ≡ Some (length bytes)
gap_found [] rest h = absurd (true≢false (sym h))
gap_found (b ∷ []) rest h = ⊎_elim (blank_found b rest) (comment_found b [] rest) (or_cases (is_blank b) (is_comment (b ∷ []) rest) h)
gap_found (b ∷ c ∷ bs) rest h = comment_found b (c ∷ bs) rest h

-- where a blank or a comment begins, no token does
no_token_at_blank : (bs : List ℕ) → (token_at (32 ∷ bs) ≡ None) × (token_at (9 ∷ bs) ≡ None) × (token_at (13 ∷ bs) ≡ None) × (token_at (10 ∷ bs) ≡ None)
unfolding token_at sign_at
no_token_at_blank [] = (refl, refl, refl, refl)
no_token_at_blank (c ∷ bs) = (refl, refl, refl, refl)

no_token_at : (b : ℕ) (bs : List ℕ) → is_blank b ≡ true → token_at (b ∷ bs) ≡ None
no_token_at b bs h =
    ⊎_elim (λ v. ⊎_elim (λ u. ⊎_elim (λ e. rw (eqb-true b 32 e) (no_token_at_blank bs).0)
    (λ e. rw (eqb-true b 9 e) (no_token_at_blank bs).1)
    (or_cases (eqb b 32) (eqb b 9) u))
    (λ e. rw (eqb-true b 13 e) (no_token_at_blank bs).2)
    (or_cases (eqb b 32 || eqb b 9) (eqb b 13) v))
    (λ e. rw (eqb-true b 10 e) (no_token_at_blank bs).3)
    (or_cases (eqb b 32 || eqb b 9 || eqb b 13) (eqb b 10) h)

no_token_at_percent : (bs : List ℕ) → not (begins_with is_star bs) ≡ true → token_at (37 ∷ bs) ≡ None
unfolding token_at sign_at
no_token_at_percent [] h = refl
no_token_at_percent (c ∷ bs) h =
    let other : eqb 42 c ≡ false = ne_eqb 42 c (λ e. eqb-false c 42 (not-true _ h) (sym e)) in
    rw other refl

pub gap_no_token : (text : List ℕ) (len : ℕ) → gap_at text ≡ Some len → token_at text ≡ None
unfolding gap_at
gap_no_token [] len h = absurd cc
gap_no_token (b ∷ bs) len h =
    let n = prefix_len is_on_line bs in
    ⊎_elim (λ w. no_token_at b bs w.0)
    (λ v. ⊎_elim (λ w. let parts = and_parts (eqb b 37) (not (begins_with is_star bs)) w.0 in rw (eqb-true b 37 parts.0) (no_token_at_percent bs parts.1))
    (λ w. absurd (let i = w.1 in cc))
    (chosen (eqb b 37 && not (begins_with is_star bs)) (Some (1 + n)) None (Some len) v.1))
    (chosen (is_blank b) (Some 1) (cond (eqb b 37 && not (begins_with is_star bs)) (Some (1 + n)) None) (Some len) h)
