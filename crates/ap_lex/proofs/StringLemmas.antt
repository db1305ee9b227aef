-- Strings.
use Rattle.std.proofs.Common.{◌≡◌, ℕ, ◌⊎◌, Bool, true, false, true≢false, cond, ◌&&◌, ◌||◌, eqb, List, [], ◌∷◌, ◌++◌, refl, sym, ap, subst, inl, inr, ⊎_elim, None, Some}
use Rattle.std.proofs.lemmas.Bool.{and_parts, and_from, or_parts, or_from, not-true, not_from_false, eqb-true}
use Rattle.ap_lex.specs.Forms.{is_escape, is_plain, is_quoted}
use Rattle.ap_lex.specs.Pieces.{behind_string}

-- which way a test went
pub chosen : {A : Type 0} (b : Bool) (x y z : A) → cond b x y ≡ z → ((b ≡ true) × (x ≡ z)) ⊎ ((b ≡ false) × (y ≡ z))
chosen true x y z e = inl (refl, e)
chosen false x y z e = inr (refl, e)

record IsPlainByte (b : ℕ) : Type 0 where
  quote : eqb b 34 ≡ false
  backslash : eqb b 92 ≡ false
  line_feed : eqb b 10 ≡ false

plain_parts : (b : ℕ) → is_plain b ≡ true → IsPlainByte b
plain_parts b h =
    let parts = or_parts (eqb b 34 || eqb b 92) (eqb b 10) (not-true _ h) in
    let first = or_parts (eqb b 34) (eqb b 92) parts.0 in
    record { quote = first.0; backslash = first.1; line_feed = parts.1 }

plain_from : (b : ℕ) → eqb b 34 ≡ false → eqb b 92 ≡ false → eqb b 10 ≡ false → is_plain b ≡ true
plain_from b quote backslash line_feed = not_from_false _ (or_from _ _ (or_from _ _ quote backslash) line_feed)

-- what stands behind a quote up to the last one is found
pub string_found : (bs rest : List ℕ) → is_quoted bs ≡ true → behind_string (bs ++ rest) ≡ Some rest
string_found [] rest h = absurd (true≢false (sym h))
string_found (b ∷ []) [] h = rw h refl
string_found (b ∷ []) (c ∷ rest) h = rw h refl
string_found (b ∷ c ∷ bs) rest h =
    ⊎_elim (λ w. let parts = and_parts (is_escape c) (is_quoted bs) w.1 in rw (eqb-true b 92 w.0, parts.0) (string_found bs rest parts.1))
    (λ w. let parts = and_parts (is_plain b) (is_quoted (c ∷ bs)) w.1 in
    let plain = plain_parts b parts.0 in
    rw (plain.quote, plain.line_feed, plain.backslash) (string_found (c ∷ bs) rest parts.1))
    (chosen (eqb b 92) (is_escape c && is_quoted bs) (is_plain b && is_quoted (c ∷ bs)) true h)

-- what is found stands behind a quote
pub record IsBehind (text rest : List ℕ) : Type 0 where
  pub bytes : List ℕ
  pub split : text ≡ bytes ++ rest
  pub quoted : is_quoted bytes ≡ true

at_quote : (b : ℕ) (bs rest : List ℕ) → eqb b 34 ≡ true → Some bs ≡ Some rest → IsBehind (b ∷ bs) rest
at_quote b bs rest quote e = record { bytes = b ∷ []; split = ap (λ cs. b ∷ cs) (let same : bs ≡ rest = cc in same); quoted = quote }

at_escape : (b c : ℕ) (bs rest : List ℕ) → eqb b 92 ≡ true → is_escape c ≡ true → IsBehind bs rest → IsBehind (b ∷ c ∷ bs) rest
at_escape b c bs rest backslash escape behind = record {
  bytes = b ∷ c ∷ behind.bytes;
  split = ap (λ cs. b ∷ c ∷ cs) behind.split;
  quoted = rw backslash (and_from _ _ escape behind.quoted);
}

plain_before : (b : ℕ) (bytes : List ℕ) → eqb b 92 ≡ false → is_plain b ≡ true → is_quoted bytes ≡ true → is_quoted (b ∷ bytes) ≡ true
plain_before b [] backslash plain h = absurd (true≢false (sym h))
plain_before b (c ∷ bytes) backslash plain h =
    subst (λ v. cond v (is_escape c && is_quoted bytes) (is_plain b && is_quoted (c ∷ bytes)) ≡ true) (sym backslash) (and_from _ _ plain h)

at_plain : (b : ℕ) (bs rest : List ℕ) → eqb b 34 ≡ false → eqb b 92 ≡ false → eqb b 10 ≡ false → IsBehind bs rest → IsBehind (b ∷ bs) rest
at_plain b bs rest quote backslash line_feed behind = record {
  bytes = b ∷ behind.bytes;
  split = ap (λ cs. b ∷ cs) behind.split;
  quoted = plain_before b behind.bytes backslash (plain_from b quote backslash line_feed) behind.quoted;
}

pub string_stands : (bs rest : List ℕ) → behind_string bs ≡ Some rest → IsBehind bs rest
string_stands [] rest h = absurd cc
string_stands (b ∷ []) rest h =
    ⊎_elim (λ w. at_quote b [] rest w.0 w.1) (λ w. absurd (let e = w.1 in cc)) (chosen (eqb b 34) (Some []) None (Some rest) h)
string_stands (b ∷ c ∷ bs) rest h =
    ⊎_elim (λ w. at_quote b (c ∷ bs) rest w.0 w.1)
    (λ v. ⊎_elim (λ w. absurd (let e = w.1 in cc))
    (λ u. ⊎_elim (λ w. ⊎_elim (λ t. at_escape b c bs rest w.0 t.0 (string_stands bs rest t.1))
    (λ t. absurd (let e = t.1 in cc))
    (chosen (is_escape c) (behind_string bs) None (Some rest) w.1))
    (λ w. at_plain b (c ∷ bs) rest v.0 w.0 u.0 (string_stands (c ∷ bs) rest w.1))
    (chosen (eqb b 92) (cond (is_escape c) (behind_string bs) None) (behind_string (c ∷ bs)) (Some rest) u.1))
    (chosen (eqb b 10) None (cond (eqb b 92) (cond (is_escape c) (behind_string bs) None) (behind_string (c ∷ bs))) (Some rest) v.1))
    (chosen (eqb b 34) (Some (c ∷ bs)) (cond (eqb b 10) None (cond (eqb b 92) (cond (is_escape c) (behind_string bs) None) (behind_string (c ∷ bs)))) (Some rest) h)
