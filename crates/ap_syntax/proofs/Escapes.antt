-- Characters of strings.
use Rattle.std.proofs.Common.{◌≡◌, ◌≢◌, ℕ, ◌<◌, List, [], ◌∷◌, ◌++◌, length, get_or, refl, sym, ap, ap₂, subst, ◌∙◌, arith, append_assoc, suc, Result, Ok, Err, is_ok, if◌then◌else◌}
use Rattle.std.specs.List.{flat_map}
use Rattle.std.specs.Char.{encode_utf8}
use Rattle.std.specs.Prelude.{encode_utf8_all}
use Rattle.std.specs.Result.{OnOk}
use Rattle.std.proofs.lemmas.Grind.{flat_map-append}
use Rattle.std.proofs.lemmas.List.{append-nil}
use Rattle.std.proofs.lemmas.Str.{inside_one, encodes-append}
use Rattle.ap_syntax.specs.CanonicalTerms.{escaped}

-- a byte that is not escaped
IsPlain : ℕ → Type 0
IsPlain b = (b ≢ 92) × (b ≢ 34) × (b ≢ 10)

escaped-plain : (b : ℕ) → IsPlain b → escaped b ≡ b ∷ []
unfolding IsPlain
escaped-plain b (p, q, r) = grind arith

flat_map-plain : (bs : List ℕ) → ((k : ℕ) → k < length bs → IsPlain (get_or bs k 0)) → flat_map escaped bs ≡ bs
flat_map-plain [] h = refl
flat_map-plain (b ∷ bs) h = ap₂ ◌++◌ (escaped-plain b (h 0 (omega arith))) (flat_map-plain bs (λ k l. h (suc k) (omega arith)))

-- a character that is not escaped is written as it is
pub plain_character : (c : ℕ) → c ≢ 92 → c ≢ 34 → c ≢ 10 → flat_map escaped (encode_utf8 c) ≡ encode_utf8 c
unfolding IsPlain
plain_character c p q r = flat_map-plain (encode_utf8 c) (λ k l. (not_at k l 92 p (omega arith), not_at k l 34 q (omega arith), not_at k l 10 r (omega arith)))
  where
    not_at : (k : ℕ) → k < length (encode_utf8 c) → (b : ℕ) → c ≢ b → b < 128 → get_or (encode_utf8 c) k 0 ≢ b
    not_at k l b differ low e = differ (inside_one c [] (encode_utf8 c) k (sym (append-nil (encode_utf8 c))) l (subst (λ n. n < 128) (sym e) low) ∙ e)

-- what a push that may fail has written, if it is a text by another name
pub pushed : {E : Type 0} (r : Result (Unit {0}) E) (old new bs cs : List ℕ) → new ≡ (if is_ok r then old ++ bs else old) → cs ≡ bs → OnOk r (new ≡ old ++ cs)
pushed (Ok x) old new bs cs e s = e ∙ ap (λ ts. old ++ ts) (sym s)
pushed (Err x) old new bs cs e s = tt

-- one more character
pub one_more : (old so_far now : List ℕ) (cs : List ℕ) (c : ℕ) → so_far ≡ old ++ 34 ∷ flat_map escaped (encode_utf8_all cs) → now ≡ so_far ++ flat_map escaped (encode_utf8 c)
    → now ≡ old ++ 34 ∷ flat_map escaped (encode_utf8_all (cs ++ c ∷ []))
one_more old so_far now cs c e f =
    let last : encode_utf8_all (cs ++ c ∷ []) ≡ encode_utf8_all cs ++ encode_utf8 c = encodes-append cs (c ∷ []) ∙ ap (λ ds. encode_utf8_all cs ++ ds) (append-nil (encode_utf8 c)) in
    f ∙ ap (λ ds. ds ++ flat_map escaped (encode_utf8 c)) e ∙ append_assoc old (34 ∷ flat_map escaped (encode_utf8_all cs)) (flat_map escaped (encode_utf8 c))
    ∙ ap (λ ds. old ++ 34 ∷ ds) (sym (flat_map-append escaped (encode_utf8_all cs) (encode_utf8 c)) ∙ ap (flat_map escaped) (sym last))
