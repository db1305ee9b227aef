-- The tokens of a text, each with the knowledge that it is one, and what its terminal tells of its characters.
use Rattle.std.proofs.Common.{◌≡◌, ◌≢◌, ℕ, ◌+◌, ◌*◌, ◌-◌, ◌≤◌, Bool, true, false, not, ◌&&◌, List, [], ◌∷◌, ◌++◌, length, map, drop, refl, sym, ap, subst, ◌∙◌, ◌||◌, arith, if◌then◌else◌}
use Rattle.std.specs.Prelude.{codes, fold, nat_le, slice_range}
use Rattle.std.specs.Str.{IsUtf8, bytes_eq}
use Rattle.std.proofs.lemmas.Bool.{and_parts, and_from}
use Rattle.std.proofs.lemmas.Bool.Decides.{nat_tests}
use Rattle.std.proofs.lemmas.List.{append-nil, length-append}
use Rattle.std.proofs.lemmas.Slice.Eq.{bytes_eq-Decides}
use Rattle.grammar.specs.Form.{Grammar, Derives}
use Rattle.grammar.specs.Form.Form.{Tok}
use Rattle.ap_lex.specs.Bytes.{is_capital_letter, is_digit, is_small_letter, is_word_byte}
use Rattle.ap_lex.specs.Forms.{is_number, is_token, is_word, number_of}
use Rattle.ap_lex.specs.Tokens.{Reads}
use Rattle.ap_lex.specs.declared.token.Kind.{Kind}
use Rattle.ap_lex.specs.declared.token.Kind.TheVariants as kinds
use Rattle.ap_lex.specs.declared.token.Token.{Token}
use Rattle.ap_lex.specs.declared.pieces.Piece.TheVariants as pieces
use Rattle.ap_lex.proofs.SoundLemmas.{token_stands}
use Rattle.ap_lex.proofs.WordLemmas.{capital_is_no_digit, capital_is_word_byte, small_is_no_digit, small_is_word_byte, word_passes, word_start}
use Rattle.ap_grammar.specs.declared.terminals.Terminal.{Terminal}
use Rattle.ap_grammar.specs.declared.terminals.Terminal.TheVariants as t
use Rattle.ap_syntax.specs.CanonicalTerms.{quoted}
use Rattle.ap_grammar.specs.Lexemes.{Lexeme, decimal, string_of}
use Rattle.ap_grammar.specs.Tables.{same}
use Rattle.ap_grammar.specs.Values.{Value, Class, class_of}
use Rattle.ap_grammar.specs.Grammar.{Name, Rhs, grammar, made, rule_of}
use Rattle.ap_grammar.proofs.Predictive.{same_itself}
use Rattle.ap_lexemes.specs.Lexemes.{lexemes_of}
use Rattle.ap_lexemes.specs.Terminals.{directives, signs, spelled, terminal_of, words}
use Rattle.canonical_law.proofs.Lexing.{Apart, Ends, IsOneToken, alone, word_apart}
use Rattle.canonical_law.proofs.Spells.{Is}
use Rattle.canonical_law.proofs.Names.{GoodName}
use Rattle.canonical_law.proofs.Numbers.{GoodNumber, good_number}
use Rattle.canonical_law.proofs.Terms.{GoodVariable}
use Rattle.canonical_law.proofs.Encoded.{same_string, string_text}

-- ---- tokens with what they are

pub record Fine : Type 0 where
  pub token : Lexeme
  pub is : Is token token.bytes
  pub text : token.terminal ≡ t.String → IsUtf8 token.bytes

abbrev pub fine_grammar : Grammar Name Terminal Class Fine Value
fine_grammar = record { kind = λ x. x.token.terminal; leaf = λ x. Value.token x.token ∷ []; rule = rule_of; build = made; class = class_of }

abbrev pub plain : List Fine → List Lexeme
plain xs = map (λ (x : Fine). x.token) xs

-- what is derived of the tokens is derived with that knowledge
pub record IsLifted (a : Rhs) (us : List Fine) (ys : List Lexeme) (vs : List Value) : Type 0 where
  pub rest : List Fine
  pub is : plain rest ≡ ys
  pub derives : Derives fine_grammar a us rest vs

lift_tok : {k : Terminal} {x : Lexeme} {xs : List Lexeme} (us : List Fine) → plain us ≡ x ∷ xs → x.terminal ≡ k → IsLifted (Tok k) us xs (Value.token x ∷ [])
lift_tok [] e h = absurd cc
lift_tok {k = k} {x = x} (u ∷ us) e h =
    let first : u.token ≡ x = cc in
    let rest : plain us ≡ _ = cc in
    record { rest = us; is = rest; derives = (let d : Derives fine_grammar (Tok k) (u ∷ us) us (Value.token u.token ∷ []) = Derives.tok (ap (λ (y : Lexeme). y.terminal) first ∙ h) in subst (λ y. Derives fine_grammar (Tok k) (u ∷ us) us (Value.token y ∷ [])) first d) }

pub lift : {a : Rhs} {xs ys : List Lexeme} {vs : List Value} (us : List Fine) → plain us ≡ xs → Derives grammar a xs ys vs → IsLifted a us ys vs
lift us e (Derives.tok h) = lift_tok us e h
lift us e (Derives.call d) = let p = lift us e d in record { rest = p.rest; is = p.is; derives = Derives.call p.derives }
lift us e Derives.empty = record { rest = us; is = e; derives = Derives.empty }
lift us e (Derives.seq d f) = let p = lift us e d in let q = lift p.rest p.is f in record { rest = q.rest; is = q.is; derives = Derives.seq p.derives q.derives }
lift us e (Derives.left d) = let p = lift us e d in record { rest = p.rest; is = p.is; derives = Derives.left p.derives }
lift us e (Derives.right d) = let p = lift us e d in record { rest = p.rest; is = p.is; derives = Derives.right p.derives }
lift us e Derives.none = record { rest = us; is = e; derives = Derives.none }
lift us e (Derives.more d f) = let p = lift us e d in let q = lift p.rest p.is f in record { rest = q.rest; is = q.is; derives = Derives.more p.derives q.derives }
lift us e (Derives.followed d f) = let p = lift us e d in let q = lift p.rest p.is f in record { rest = q.rest; is = q.is; derives = Derives.followed p.derives q.derives }

-- ---- which kind has which terminal

none_has : Terminal → List (List ℕ × Terminal) → Bool
none_has k [] = true
none_has k (row ∷ rows) = not (same row.1 k) && none_has k rows

not_found : (k : Terminal) (rows : List (List ℕ × Terminal)) (bytes : List ℕ) (other : Terminal) → none_has k rows ≡ true → other ≢ k → spelled rows bytes other ≢ k
unfolding none_has
not_found k [] bytes other h i e = i e
not_found k (row ∷ rows) bytes other h i e = by_test (bytes_eq row.0 bytes) (same row.1 k) refl h (λ g. not_found k rows bytes other g i) e
  where
    by_test : (found is : Bool) → same row.1 k ≡ is → (not is && none_has k rows) ≡ true → (none_has k rows ≡ true → spelled rows bytes other ≢ k) → (if found then row.1 else spelled rows bytes other) ≢ k
    by_test found true e g later f = absurd cc
    by_test true false e g later f = absurd (let j : same k k ≡ true = same_itself k in let l : same k k ≡ false = rw f at e in cc)
    by_test false false e g later f = later g f

word_kind_is : (kind : Kind) (bytes : List ℕ) → terminal_of kind bytes ≡ t.Word → kind ≡ kinds.Ident
unfolding none_has
word_kind_is kinds.Num bytes e = absurd cc
word_kind_is kinds.Ident bytes e = refl
word_kind_is kinds.Not bytes e = absurd cc
word_kind_is kinds.Var bytes e = absurd cc
word_kind_is kinds.Any bytes e = absurd cc
word_kind_is kinds.Str bytes e = absurd cc
word_kind_is kinds.Directive bytes e = absurd (not_found t.Word directives bytes t.Stray refl (λ f. cc) e)
word_kind_is kinds.Sign bytes e = absurd (not_found t.Word signs bytes t.Stray refl (λ f. cc) e)

base_kind_is : (kind : Kind) (bytes : List ℕ) → terminal_of kind bytes ≡ t.Base → kind ≡ kinds.Ident
unfolding none_has
base_kind_is kinds.Num bytes e = absurd cc
base_kind_is kinds.Ident bytes e = refl
base_kind_is kinds.Not bytes e = absurd cc
base_kind_is kinds.Var bytes e = absurd cc
base_kind_is kinds.Any bytes e = absurd cc
base_kind_is kinds.Str bytes e = absurd cc
base_kind_is kinds.Directive bytes e = absurd (not_found t.Base directives bytes t.Stray refl (λ f. cc) e)
base_kind_is kinds.Sign bytes e = absurd (not_found t.Base signs bytes t.Stray refl (λ f. cc) e)

preference_kind_is : (kind : Kind) (bytes : List ℕ) → terminal_of kind bytes ≡ t.Preference → kind ≡ kinds.Ident
unfolding none_has
preference_kind_is kinds.Num bytes e = absurd cc
preference_kind_is kinds.Ident bytes e = refl
preference_kind_is kinds.Not bytes e = absurd cc
preference_kind_is kinds.Var bytes e = absurd cc
preference_kind_is kinds.Any bytes e = absurd cc
preference_kind_is kinds.Str bytes e = absurd cc
preference_kind_is kinds.Directive bytes e = absurd (not_found t.Preference directives bytes t.Stray refl (λ f. cc) e)
preference_kind_is kinds.Sign bytes e = absurd (not_found t.Preference signs bytes t.Stray refl (λ f. cc) e)

number_kind_is : (kind : Kind) (bytes : List ℕ) → terminal_of kind bytes ≡ t.Number → kind ≡ kinds.Num
unfolding none_has
number_kind_is kinds.Num bytes e = refl
number_kind_is kinds.Ident bytes e = absurd (not_found t.Number words bytes t.Word refl (λ f. cc) e)
number_kind_is kinds.Not bytes e = absurd cc
number_kind_is kinds.Var bytes e = absurd cc
number_kind_is kinds.Any bytes e = absurd cc
number_kind_is kinds.Str bytes e = absurd cc
number_kind_is kinds.Directive bytes e = absurd (not_found t.Number directives bytes t.Stray refl (λ f. cc) e)
number_kind_is kinds.Sign bytes e = absurd (not_found t.Number signs bytes t.Stray refl (λ f. cc) e)

variable_kind_is : (kind : Kind) (bytes : List ℕ) → terminal_of kind bytes ≡ t.Variable → kind ≡ kinds.Var
unfolding none_has
variable_kind_is kinds.Num bytes e = absurd cc
variable_kind_is kinds.Ident bytes e = absurd (not_found t.Variable words bytes t.Word refl (λ f. cc) e)
variable_kind_is kinds.Not bytes e = absurd cc
variable_kind_is kinds.Var bytes e = refl
variable_kind_is kinds.Any bytes e = absurd cc
variable_kind_is kinds.Str bytes e = absurd cc
variable_kind_is kinds.Directive bytes e = absurd (not_found t.Variable directives bytes t.Stray refl (λ f. cc) e)
variable_kind_is kinds.Sign bytes e = absurd (not_found t.Variable signs bytes t.Stray refl (λ f. cc) e)

string_kind_is : (kind : Kind) (bytes : List ℕ) → terminal_of kind bytes ≡ t.String → kind ≡ kinds.Str
unfolding none_has
string_kind_is kinds.Num bytes e = absurd cc
string_kind_is kinds.Ident bytes e = absurd (not_found t.String words bytes t.Word refl (λ f. cc) e)
string_kind_is kinds.Not bytes e = absurd cc
string_kind_is kinds.Var bytes e = absurd cc
string_kind_is kinds.Any bytes e = absurd cc
string_kind_is kinds.Str bytes e = refl
string_kind_is kinds.Directive bytes e = absurd (not_found t.String directives bytes t.Stray refl (λ f. cc) e)
string_kind_is kinds.Sign bytes e = absurd (not_found t.String signs bytes t.Stray refl (λ f. cc) e)

-- ---- the tokens of a text are so

ends_anywhere : (kind : Kind) (bytes rest : List ℕ) → is_token kind bytes rest ≡ true → is_token kind bytes [] ≡ true
ends_anywhere kinds.Num bytes rest h = and_from _ _ (and_parts (is_number bytes) _ h).0 refl
ends_anywhere kinds.Ident bytes rest h = h
ends_anywhere kinds.Not bytes rest h = h
ends_anywhere kinds.Var bytes rest h = h
ends_anywhere kinds.Any bytes rest h = and_from _ _ (and_parts (bytes_eq bytes (codes "_")) _ h).0 refl
ends_anywhere kinds.Str bytes rest h = h
ends_anywhere kinds.Directive bytes rest h = h
ends_anywhere kinds.Sign bytes rest h = h

record AreFine (xs : List Lexeme) : Type 0 where
  tokens : List Fine
  are : plain tokens ≡ xs

form_as : {kind other : Kind} (bytes rest : List ℕ) → kind ≡ other → is_token kind bytes rest ≡ true → is_token other bytes rest ≡ true
form_as bytes rest e h = rw e at h

pub fine_tokens : (text : List ℕ) (file : ℕ) → IsUtf8 text → {from to : ℕ} {ts : List Token} → Reads text from ts to → (us : List Fine) × (plain us ≡ lexemes_of text file ts)
fine_tokens text file u Reads.nothing = ([], refl)
fine_tokens text file u (Reads.gap g r) = fine_tokens text file u r
fine_tokens text file u (Reads.token {from = from} {middle = middle} {kind = kind} l r) =
    let q = fine_tokens text file u r in
    let w = slice_range text from middle in
    let o = alone kind w (ends_anywhere kind w (drop middle text) l.token.form) in
    (record { token = record { terminal = terminal_of kind w; bytes = w; file = file; at = from }; is = record { kind = kind; one = o; bytes = refl; terminal = refl }; text = λ e. string_text text from middle u l.token.within (form_as w (drop middle text) (string_kind_is kind w e) l.token.form) } ∷ q.0, ap (λ us. record { terminal = terminal_of kind w; bytes = w; file = file; at = from } ∷ us) q.1)

-- ---- the form of a token

pub has_form : (w : List ℕ) (kind : Kind) → IsOneToken w kind → is_token kind w [] ≡ true
has_form w kind o =
    let s = token_stands w (pieces.Token kind (length w)) o in
    let k : s.kind ≡ kind = let e = s.is in cc in
    let n : s.len ≡ length w = let e = s.is in cc in
    let split = s.stands.split in
    let whole = ap length split in
    let none : length s.stands.rest ≡ 0 = omega (arith, whole, length-append s.stands.bytes s.stands.rest, s.stands.len_is, n) in
    form_of s.stands.bytes s.stands.rest none split k s.stands.has_form
  where
    form_of : (bytes rest : List ℕ) {j : Kind} → length rest ≡ 0 → w ≡ bytes ++ rest → j ≡ kind → is_token j bytes rest ≡ true → is_token kind w [] ≡ true
    form_of bytes [] n e k h = rw (k, sym (e ∙ append-nil bytes)) at h
    form_of bytes (b ∷ bs) n e k h = absurd (omega (arith, n))

-- ---- what tokens tell

one_of : (x : Fine) {kind : Kind} → x.is.kind ≡ kind → IsOneToken x.token.bytes kind
one_of x e = let o = x.is.one in rw e at o

form_of : (x : Fine) {kind : Kind} → x.is.kind ≡ kind → is_token kind x.token.bytes [] ≡ true
form_of x e = has_form x.token.bytes _ (one_of x e)

apart_word : (is_letter : ℕ → Bool) (bytes rest : List ℕ) → ((b : ℕ) → is_letter b ≡ true → is_word_byte b ≡ true) → ((b : ℕ) → is_letter b ≡ true → is_digit b ≡ false) → is_word is_letter bytes ≡ true → Ends rest → Apart bytes rest
apart_word is_letter [] rest w d h e = absurd cc
apart_word is_letter (b ∷ bs) rest w d h e = word_apart b bs rest (word_passes is_letter w (b ∷ bs) h) (word_start is_letter w b bs d h).1 e

name_of : (x : Fine) → x.is.kind ≡ kinds.Ident → GoodName x.token.bytes
name_of x e =
    let h = (and_parts (is_word is_small_letter x.token.bytes) _ (form_of x e)).0 in
    record { one = one_of x e; passes = word_passes is_small_letter small_is_word_byte x.token.bytes h; apart = λ rest r. apart_word is_small_letter x.token.bytes rest small_is_word_byte small_is_no_digit h r }

kind_by : (x : Fine) {k : Terminal} → x.token.terminal ≡ k → terminal_of x.is.kind x.token.bytes ≡ k
kind_by x e = sym x.is.terminal ∙ e

pub word_name : (x : Fine) → x.token.terminal ≡ t.Word → GoodName x.token.bytes
word_name x e = name_of x (word_kind_is x.is.kind x.token.bytes (kind_by x e))

pub base_name : (x : Fine) → x.token.terminal ≡ t.Base → GoodName x.token.bytes
base_name x e = name_of x (base_kind_is x.is.kind x.token.bytes (kind_by x e))

pub preference_name : (x : Fine) → x.token.terminal ≡ t.Preference → GoodName x.token.bytes
preference_name x e = name_of x (preference_kind_is x.is.kind x.token.bytes (kind_by x e))

pub variable_of : (x : Fine) → x.token.terminal ≡ t.Variable → GoodVariable x.token.bytes
variable_of x e =
    let k = variable_kind_is x.is.kind x.token.bytes (kind_by x e) in
    record { one = one_of x k; passes = word_passes is_capital_letter capital_is_word_byte x.token.bytes (form_of x k); apart = λ rest r. apart_word is_capital_letter x.token.bytes rest capital_is_word_byte capital_is_no_digit (form_of x k) r }

times_ten : (n d : ℕ) → 10 * n + (d - 48) ≡ n * 10 + (d - 48)
times_ten n d = omega arith

same_number : (n : ℕ) (ds : List ℕ) → fold (λ m d. 10 * m + (d - 48)) n ds ≡ fold (λ m d. m * 10 + (d - 48)) n ds
same_number n [] = refl
same_number n (d ∷ ds) = ap (λ m. fold (λ m d. 10 * m + (d - 48)) m ds) (times_ten n d) ∙ same_number (n * 10 + (d - 48)) ds

in_bounds : (n m : ℕ) → n ≡ m → nat_le n 2147483647 ≡ true → m ≤ 2147483647
in_bounds n m e h = grind (arith, nat_tests)

pub number_of_token : (x : Fine) → x.token.terminal ≡ t.Number → GoodNumber (decimal x.token.bytes)
number_of_token x e =
    let k = number_kind_is x.is.kind x.token.bytes (kind_by x e) in
    let h = (and_parts (is_number x.token.bytes) _ (form_of x k)).0 in
    good_number (decimal x.token.bytes) (in_bounds (number_of x.token.bytes) (decimal x.token.bytes) (same_number 0 x.token.bytes) (and_parts _ (nat_le (number_of x.token.bytes) 2147483647) h).1)

-- a string is written with the characters that were read
pub string_of_token : (x : Fine) → x.token.terminal ≡ t.String → IsUtf8 (quoted (string_of x.token.bytes))
string_of_token x e = subst IsUtf8 (sym (same_string x.token.bytes (form_of x (string_kind_is x.is.kind x.token.bytes (kind_by x e))))) (x.text e)

-- ---- signs of one spelling

only_has : Terminal → List ℕ → List (List ℕ × Terminal) → Bool
only_has k w [] = true
only_has k w (row ∷ rows) = (not (same row.1 k) || bytes_eq row.0 w) && only_has k w rows

only_row : (k : Terminal) (w : List ℕ) (rows : List (List ℕ × Terminal)) (bytes : List ℕ) (other : Terminal) → only_has k w rows ≡ true → other ≢ k → spelled rows bytes other ≡ k → bytes ≡ w
unfolding only_has
only_row k w [] bytes other h i e = absurd (i e)
only_row k w (row ∷ rows) bytes other h i e =
    let parts = and_parts (not (same row.1 k) || bytes_eq row.0 w) (only_has k w rows) h in
    by_test (bytes_eq row.0 bytes) refl (λ g. only_row k w rows bytes other parts.1 i g) parts.0 e
  where
    is_word_of : (b : Bool) → same row.1 k ≡ b → row.1 ≡ k → (not b || bytes_eq row.0 w) ≡ true → row.0 ≡ w
    is_word_of true d f g = (bytes_eq-Decides row.0 w).0 g
    is_word_of false d f g = absurd (let j : same k k ≡ true = same_itself k in let l : same k k ≡ false = rw f at d in cc)

    by_test : (found : Bool) → bytes_eq row.0 bytes ≡ found → (spelled rows bytes other ≡ k → bytes ≡ w) → (not (same row.1 k) || bytes_eq row.0 w) ≡ true → (if found then row.1 else spelled rows bytes other) ≡ k → bytes ≡ w
    by_test true d later g f = sym ((bytes_eq-Decides row.0 bytes).0 d) ∙ is_word_of (same row.1 k) refl f g
    by_test false d later g f = later f

open_word : (kind : Kind) (bytes : List ℕ) → terminal_of kind bytes ≡ t.Open → bytes ≡ codes "("
unfolding none_has only_has
open_word kinds.Num bytes e = absurd cc
open_word kinds.Ident bytes e = absurd (not_found t.Open words bytes t.Word refl (λ f. cc) e)
open_word kinds.Not bytes e = absurd cc
open_word kinds.Var bytes e = absurd cc
open_word kinds.Any bytes e = absurd cc
open_word kinds.Str bytes e = absurd cc
open_word kinds.Directive bytes e = absurd (not_found t.Open directives bytes t.Stray refl (λ f. cc) e)
open_word kinds.Sign bytes e = only_row t.Open (codes "(") signs bytes t.Stray refl (λ f. cc) e

close_word : (kind : Kind) (bytes : List ℕ) → terminal_of kind bytes ≡ t.Close → bytes ≡ codes ")"
unfolding none_has only_has
close_word kinds.Num bytes e = absurd cc
close_word kinds.Ident bytes e = absurd (not_found t.Close words bytes t.Word refl (λ f. cc) e)
close_word kinds.Not bytes e = absurd cc
close_word kinds.Var bytes e = absurd cc
close_word kinds.Any bytes e = absurd cc
close_word kinds.Str bytes e = absurd cc
close_word kinds.Directive bytes e = absurd (not_found t.Close directives bytes t.Stray refl (λ f. cc) e)
close_word kinds.Sign bytes e = only_row t.Close (codes ")") signs bytes t.Stray refl (λ f. cc) e

pub open_bytes : (x : Fine) → x.token.terminal ≡ t.Open → x.token.bytes ≡ codes "("
open_bytes x e = open_word x.is.kind x.token.bytes (kind_by x e)

pub close_bytes : (x : Fine) → x.token.terminal ≡ t.Close → x.token.bytes ≡ codes ")"
close_bytes x e = close_word x.is.kind x.token.bytes (kind_by x e)
