-- What stands between the quotes of a string.
use Rattle.std.proofs.Common.{◌≡◌, ◌≢◌, ℕ, ◌<◌, ◌≤◌, List, [], ◌∷◌, ◌++◌, Option, Some, None, inl, inr, length, get_or, suc, refl, sym, ◌∙◌, ap, subst, arith}
use Rattle.std.specs.Char.{encode_utf8}
use Rattle.std.proofs.lemmas.List.{append-nil, length-append}
use Rattle.std.proofs.lemmas.Bool.{cases_lt}
use Rattle.std.specs.Option.{MatchOption}
use Rattle.std.specs.Str.Iter.{chars_rest}
use Rattle.std.specs.declared.str.Chars.{Chars}
use Rattle.std.proofs.lemmas.Bool.Decides.{nat_tests}
use Rattle.std.proofs.lemmas.Str.{inside_one, char_from_byte, encode_ascii, length-encode, len_utf8_bounds}
use Rattle.ap_grammar.specs.Lexemes.{escaped, string_of, unescaped}
use Rattle.literal_parse.specs.Strings.{Unescapes}

-- a byte that is no quote and no backslash
IsPlain : ℕ → Type 0
IsPlain b = (b ≢ 34) × (b ≢ 92)

plain_byte : (b : ℕ) (bs : List ℕ) → b ≢ 34 → b ≢ 92 → unescaped (b ∷ bs) ≡ b ∷ unescaped bs
plain_byte b [] h i = grind (arith, nat_tests)
plain_byte b (c ∷ bs) h i = grind (arith, nat_tests)

plain_bytes : (bs rest : List ℕ) → ((k : ℕ) → k < length bs → (get_or bs k 0 ≢ 34) × (get_or bs k 0 ≢ 92)) → unescaped (bs ++ rest) ≡ bs ++ unescaped rest
plain_bytes [] rest h = refl
plain_bytes (b ∷ bs) rest h = let p = h 0 (omega arith) in plain_byte b (bs ++ rest) p.0 p.1 ∙ ap (λ cs. b ∷ cs) (plain_bytes bs rest (λ k l. h (suc k) (omega arith)))

-- a byte of a character that is not this byte is another one
not_at : (c b k : ℕ) → k < length (encode_utf8 c) → c ≢ b → b < 128 → get_or (encode_utf8 c) k 0 ≢ b
not_at c b k l differ low e = differ (inside_one c [] (encode_utf8 c) k (sym (append-nil (encode_utf8 c))) l (subst (λ n. n < 128) (sym e) low) ∙ e)

plain_character : (c : ℕ) (rest : List ℕ) → c ≢ 34 → c ≢ 92 → unescaped (encode_utf8 c ++ rest) ≡ encode_utf8 c ++ unescaped rest
plain_character c rest h i = plain_bytes (encode_utf8 c) rest (λ k l. (not_at c 34 k l h (omega arith), not_at c 92 k l i (omega arith)))

shorter : (c : ℕ) (old new : List ℕ) → old ≡ encode_utf8 c ++ new → length new < length old
shorter c old new e = rw e (omega (arith, length-append (encode_utf8 c) new, length-encode c, len_utf8_bounds c))

pub unescapes_plain : (c : ℕ) (old new : List ℕ) → old ≡ encode_utf8 c ++ new → c ≢ 34 → c ≢ 92 → Unescapes old new (Some c)
unescapes_plain c old new e h i = (ap unescaped e ∙ plain_character c new h i, shorter c old new e)

-- ---- behind a backslash

behind_backslash : (bs rest : List ℕ) → 0 < length bs → ((k : ℕ) → k < length bs → 128 ≤ get_or bs k 0) → unescaped (92 ∷ (bs ++ rest)) ≡ bs ++ unescaped rest
behind_backslash [] rest l h = absurd (omega arith)
behind_backslash (b ∷ bs) rest l h =
    let first : 128 ≤ b = h 0 (omega arith) in
    let e : escaped b ≡ b = grind (arith, nat_tests) in
    ap (λ c. c ∷ unescaped (bs ++ rest)) e ∙ ap (λ cs. b ∷ cs) (plain_bytes bs rest (λ k l. let i : 128 ≤ get_or bs k 0 = h (suc k) (omega arith) in (omega arith, omega arith)))

high_bytes : (d k : ℕ) → 128 ≤ d → k < length (encode_utf8 d) → 128 ≤ get_or (encode_utf8 d) k 0
high_bytes d k h l = by_size (get_or (encode_utf8 d) k 0) refl
  where
    by_size : (b : ℕ) → get_or (encode_utf8 d) k 0 ≡ b → 128 ≤ b
    by_size b e = elim (cases_lt b 128) [ inr i ↦ i | inl i ↦ absurd (let f : d ≡ get_or (encode_utf8 d) k 0 = inside_one d [] (encode_utf8 d) k (sym (append-nil (encode_utf8 d))) l (omega (arith, e)) in omega arith) ]

escape_of : (d : ℕ) (rest : List ℕ) → d ≢ 110 → unescaped (92 ∷ (encode_utf8 d ++ rest)) ≡ encode_utf8 d ++ unescaped rest
escape_of d rest h = elim (cases_lt d 128) [
  | inr i ↦ behind_backslash (encode_utf8 d) rest (omega (arith, length-encode d, len_utf8_bounds d)) (λ k l. high_bytes d k i l)
  | inl i ↦ rw (encode_ascii d i) (grind (arith, nat_tests))
]

pub unescapes_escape : (d : ℕ) (old mid new : List ℕ) → old ≡ encode_utf8 92 ++ mid → mid ≡ encode_utf8 d ++ new → d ≢ 110 → Unescapes old new (Some d)
unescapes_escape d old mid new e f h = let l = shorter 92 old mid e in let m = shorter d mid new f in (ap unescaped (rw (encode_ascii 92 (omega arith)) at e ∙ ap (λ bs. 92 ∷ bs) f) ∙ escape_of d new h, omega arith)

behind_first : (quoted rest : List ℕ) (c : ℕ) → quoted ≡ encode_utf8 c ++ rest → get_or quoted 0 0 ≡ 34 → unescaped rest ≡ string_of quoted
behind_first quoted rest c e h =
    let i : 0 < length quoted = omega (arith, shorter c quoted rest e) in
    let f : c ≡ 34 = char_from_byte quoted rest c e (omega arith) i ∙ h in
    rw (e, f, encode_ascii 34 (omega arith)) refl

pub behind_quote : (quoted : List ℕ) (s t : Chars) (r : Option ℕ) → chars_rest s ≡ quoted → get_or quoted 0 0 ≡ 34 → MatchOption r ((length (chars_rest s) ≡ 0) × (t ≡ s)) (λ c. chars_rest s ≡ encode_utf8 c ++ chars_rest t) → unescaped (chars_rest t) ≡ string_of quoted
behind_quote quoted s t (Some c) e q h = behind_first quoted (chars_rest t) c (sym e ∙ h) q
behind_quote [] s t None e q h = absurd (cc)
behind_quote (b ∷ bs) s t None e q h = let i = ap length e in absurd (omega (arith, h.0))
