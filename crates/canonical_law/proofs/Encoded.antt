-- What is UTF-8 of a text: its strings, and what is ASCII.
use Rattle.std.proofs.Common.{◌≡◌, ℕ, zero, suc, ◌+◌, ◌-◌, ◌<◌, ◌≤◌, Bool, true, false, true≢false, eqb, List, [], ◌∷◌, ◌++◌, length, take, drop, get_or, refl, sym, ap, subst, ◌∙◌, append_assoc, ◌&&◌, ◌||◌, ⊎_elim, arith, if◌then◌else◌}
use Rattle.std.specs.Prelude.{nat_lt, slice_range}
use Rattle.std.specs.List.{flat_map, list_all}
use Rattle.std.specs.Str.{IsAscii, IsUtf8}
use Rattle.std.specs.Str.Lossy.{utf8_valid_len, valid_len_up_to}
use Rattle.std.proofs.lemmas.Bool.{and_from, and_parts, eqb-true, not-true, or_parts}
use Rattle.std.proofs.lemmas.Bool.Decides.{nat_tests}
use Rattle.std.proofs.lemmas.List.{drop_at, length-append, take-append-drop, take_at}
use Rattle.std.proofs.lemmas.Str.{IsCharBoundary-after_ascii, IsCharBoundary-before_ascii, IsUtf8-drop, IsUtf8-from_ascii, IsUtf8-from_is_utf8, IsUtf8-nil, IsUtf8-take}
use Rattle.ap_syntax.specs.CanonicalTerms.{escaped, quoted}
use Rattle.ap_lex.specs.Bytes.{is_word_byte}
use Rattle.ap_lex.specs.Forms.{is_escape, is_plain, is_quoted, is_token}
use Rattle.ap_lex.specs.declared.token.Kind.TheVariants.{Str}
use Rattle.ap_lex.proofs.StandsLemmas.{Stands, stands_at, token_is_proper}
use Rattle.ap_lex.proofs.StringLemmas.{chosen}
use Rattle.ap_grammar.specs.Lexemes.{string_of, unescaped}

-- ---- ASCII

below_128 : (bs : List ℕ) → list_all (λ b. nat_lt b 128) bs ≡ true → IsAscii bs
below_128 [] h i = omega arith
below_128 (b ∷ bs) h zero = let p = (and_parts (nat_lt b 128) (list_all (λ c. nat_lt c 128) bs) h).0 in grind (arith, nat_tests)
below_128 (b ∷ bs) h (suc i) = below_128 bs (and_parts (nat_lt b 128) (list_all (λ c. nat_lt c 128) bs) h).1 i

pub ascii_text : (bs : List ℕ) → list_all (λ b. nat_lt b 128) bs ≡ true → IsUtf8 bs
ascii_text bs h = IsUtf8-from_ascii bs (below_128 bs h)

words_below : (bs : List ℕ) → list_all is_word_byte bs ≡ true → list_all (λ b. nat_lt b 128) bs ≡ true
words_below [] h = refl
words_below (b ∷ bs) h = let p = and_parts (is_word_byte b) (list_all is_word_byte bs) h in and_from _ _ (below b p.0) (words_below bs p.1)
  where
    below : (b : ℕ) → is_word_byte b ≡ true → nat_lt b 128 ≡ true
    below b h = grind (arith, nat_tests)

pub word_text : (bs : List ℕ) → list_all is_word_byte bs ≡ true → IsUtf8 bs
word_text bs h = ascii_text bs (words_below bs h)

-- ---- the longest front of a text that is UTF-8

front_text : (bs : List ℕ) (n : ℕ) → IsUtf8 (take (valid_len_up_to bs n) bs)
front_text bs zero = IsUtf8-nil
front_text bs (suc n) = choose (Rattle.std.specs.Str.is_utf8 (take (suc n) bs)) refl (front_text bs n)
  where
    choose : (b : Bool) → Rattle.std.specs.Str.is_utf8 (take (suc n) bs) ≡ b → IsUtf8 (take (valid_len_up_to bs n) bs) → IsUtf8 (take (if b then suc n else valid_len_up_to bs n) bs)
    choose true e h = IsUtf8-from_is_utf8 (take (suc n) bs) e
    choose false e h = h

pub longest_front : (bs : List ℕ) → IsUtf8 (take (utf8_valid_len bs) bs)
unfolding utf8_valid_len
longest_front bs = front_text bs (length bs)

-- ---- what begins or ends with a quote

quote_there : (xs ys : List ℕ) → get_or (xs ++ (34 ∷ ys)) (length xs) 0 ≡ 34
quote_there [] ys = refl
quote_there (x ∷ xs) ys = quote_there xs ys

quote_inside : (xs ys : List ℕ) → length xs < length (xs ++ (34 ∷ ys))
quote_inside xs ys = omega (arith, length-append xs (34 ∷ ys))

is_ascii : (b : ℕ) → b ≡ 34 → b < 128
is_ascii b e = omega (arith, e)

quote_begins : (xs ys : List ℕ) → IsUtf8 (xs ++ (34 ∷ ys)) → IsUtf8 (34 ∷ ys)
quote_begins xs ys u =
    let b = IsCharBoundary-before_ascii (xs ++ (34 ∷ ys)) (length xs) (quote_inside xs ys) (is_ascii _ (quote_there xs ys)) in
    subst IsUtf8 (drop_at xs (34 ∷ ys) (length xs) refl) (IsUtf8-drop (xs ++ (34 ∷ ys)) (length xs) u b)

one_longer : (xs : List ℕ) → length xs + 1 ≡ length (xs ++ (34 ∷ []))
one_longer xs = omega (arith, length-append xs (34 ∷ []))

quote_ends : (xs ys : List ℕ) → IsUtf8 (xs ++ (34 ∷ ys)) → IsUtf8 (xs ++ (34 ∷ []))
quote_ends xs ys u =
    let b = IsCharBoundary-after_ascii (xs ++ (34 ∷ ys)) (length xs) u (quote_inside xs ys) (is_ascii _ (quote_there xs ys)) in
    let cut = IsUtf8-take (xs ++ (34 ∷ ys)) (length xs + 1) u b in
    subst IsUtf8 (ap (λ bs. take (length xs + 1) bs) (sym (append_assoc xs (34 ∷ []) ys)) ∙ take_at (xs ++ (34 ∷ [])) ys (length xs + 1) (sym (one_longer xs))) cut

-- ---- strings

pub record EndsInQuote (bs : List ℕ) : Type 0 where
  pub front : List ℕ
  pub are : bs ≡ front ++ (34 ∷ [])

last_quote : (bs : List ℕ) → is_quoted bs ≡ true → EndsInQuote bs
last_quote [] h = absurd (true≢false (sym h))
last_quote (b ∷ []) h = record { front = []; are = ap (λ c. c ∷ []) (eqb-true b 34 h) }
last_quote (b ∷ c ∷ bs) h =
    ⊎_elim (λ w. let q = last_quote bs (and_parts (is_escape c) (is_quoted bs) w.1).1 in record { front = b ∷ c ∷ q.front; are = ap (λ cs. b ∷ c ∷ cs) q.are })
    (λ w. let q = last_quote (c ∷ bs) (and_parts (is_plain b) (is_quoted (c ∷ bs)) w.1).1 in record { front = b ∷ q.front; are = ap (λ cs. b ∷ cs) q.are })
    (chosen (eqb b 92) (is_escape c && is_quoted bs) (is_plain b && is_quoted (c ∷ bs)) true h)

-- what stands behind the first quote is written as it was read

abbrev written_behind : List ℕ → List ℕ
written_behind bs = flat_map escaped (unescaped bs) ++ (34 ∷ [])

rewritten : (c : ℕ) → is_escape c ≡ true → escaped (Rattle.ap_grammar.specs.Lexemes.escaped c) ≡ 92 ∷ c ∷ []
rewritten c h = choose (eqb c 110) refl (eqb c 34) refl (eqb c 92) refl h
  where
    choose : (n : Bool) → eqb c 110 ≡ n → (q : Bool) → eqb c 34 ≡ q → (b : Bool) → eqb c 92 ≡ b → (b || q || n) ≡ true → escaped (Rattle.ap_grammar.specs.Lexemes.escaped c) ≡ 92 ∷ c ∷ []
    choose true e q f b g i = let same = eqb-true c 110 e in rw same refl
    choose false e true f b g i = let same = eqb-true c 34 f in rw same refl
    choose false e false f true g i = let same = eqb-true c 92 g in rw same refl
    choose false e false f false g i = absurd (true≢false (sym i))

plainly : (b : ℕ) → eqb b 34 ≡ false → eqb b 92 ≡ false → eqb b 10 ≡ false → escaped b ≡ b ∷ []
plainly b q s l = rw (l, s, q) refl

record IsPlainByte (b : ℕ) : Type 0 where
  quote : eqb b 34 ≡ false
  backslash : eqb b 92 ≡ false
  line_feed : eqb b 10 ≡ false

plain_parts : (b : ℕ) → is_plain b ≡ true → IsPlainByte b
plain_parts b h =
    let parts = or_parts (eqb b 34 || eqb b 92) (eqb b 10) (not-true _ h) in
    let first = or_parts (eqb b 34) (eqb b 92) parts.0 in
    record { quote = first.0; backslash = first.1; line_feed = parts.1 }

more_behind : (d : ℕ) (ds bs cs : List ℕ) → escaped d ≡ bs → flat_map escaped ds ++ (34 ∷ []) ≡ cs → flat_map escaped (d ∷ ds) ++ (34 ∷ []) ≡ bs ++ cs
more_behind d ds bs cs e f = append_assoc (escaped d) (flat_map escaped ds) (34 ∷ []) ∙ (ap (λ es. es ++ (flat_map escaped ds ++ (34 ∷ []))) e ∙ ap (λ es. bs ++ es) f)

same_behind : (bs : List ℕ) → is_quoted bs ≡ true → written_behind bs ≡ bs
same_behind [] h = absurd (true≢false (sym h))
same_behind (b ∷ []) h = rw h (ap (λ c. c ∷ []) (sym (eqb-true b 34 h)))
same_behind (b ∷ c ∷ bs) h =
    ⊎_elim (λ w.
    let parts = and_parts (is_escape c) (is_quoted bs) w.1 in
    let same = eqb-true b 92 w.0 in
    rw same (more_behind (Rattle.ap_grammar.specs.Lexemes.escaped c) (unescaped bs) (92 ∷ c ∷ []) bs (rewritten c parts.0) (same_behind bs parts.1)))
    (λ w.
    let parts = and_parts (is_plain b) (is_quoted (c ∷ bs)) w.1 in
    let plain = plain_parts b parts.0 in
    rw (plain.quote, plain.backslash) (more_behind b (unescaped (c ∷ bs)) (b ∷ []) (c ∷ bs) (plainly b plain.quote plain.backslash plain.line_feed) (same_behind (c ∷ bs) parts.1)))
    (chosen (eqb b 92) (is_escape c && is_quoted bs) (is_plain b && is_quoted (c ∷ bs)) true h)

-- a string that was read is written with the same characters
pub same_string : (bs : List ℕ) → is_token Str bs [] ≡ true → quoted (string_of bs) ≡ bs
same_string [] h = absurd (true≢false (sym h))
same_string (b ∷ bs) h =
    let parts = and_parts (eqb b 34) (is_quoted bs) h in
    ap (λ cs. 34 ∷ cs) (same_behind bs parts.1) ∙ ap (λ c. c ∷ bs) (sym (eqb-true b 34 parts.0))

-- a string of a text is UTF-8
string_at : (before bs rest : List ℕ) → IsUtf8 (before ++ (bs ++ rest)) → is_token Str bs rest ≡ true → IsUtf8 bs
string_at before [] rest u h = absurd (true≢false (sym h))
string_at before (b ∷ bs) rest u h =
    let parts = and_parts (eqb b 34) (is_quoted bs) h in
    let first = eqb-true b 34 parts.0 in
    let q = last_quote bs parts.1 in
    let begun = quote_begins before (bs ++ rest) (subst (λ c. IsUtf8 (before ++ (c ∷ (bs ++ rest)))) first u) in
    let whole = quote_ends (34 ∷ q.front) rest (subst IsUtf8 (ap (λ cs. 34 ∷ cs) (ap (λ cs. cs ++ rest) q.are ∙ append_assoc q.front (34 ∷ []) rest)) begun) in
    subst IsUtf8 (ap (λ cs. 34 ∷ cs) (sym q.are) ∙ ap (λ c. c ∷ bs) (sym first)) whole

front_is : (text : List ℕ) (n : ℕ) (s : Stands (is_token Str) text n) → take n text ≡ s.bytes
front_is text n s = ap (take n) s.split ∙ take_at s.bytes s.rest n s.len_is

pub string_text : (text : List ℕ) (from to : ℕ) → IsUtf8 text → to ≤ length text → is_token Str (slice_range text from to) (drop to text) ≡ true → IsUtf8 (slice_range text from to)
string_text text from to u h f =
    let s = (stands_at (is_token Str) (token_is_proper Str) text from to h f).1 in
    subst IsUtf8 (sym (front_is (drop from text) (to - from) s)) (string_at (take from text) s.bytes s.rest (subst IsUtf8 (sym (take-append-drop from text) ∙ ap (λ bs. take from text ++ bs) s.split) u) s.has_form)
