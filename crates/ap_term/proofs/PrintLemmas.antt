-- What is written for the parts of a value.
use Rattle.std.proofs.Common.{◌≡◌, ◌≢◌, ℕ, ◌+◌, ◌<◌, ◌≤◌, ◌==◌, Bool, true, List, [], ◌∷◌, ◌++◌, length, get_or, take, map, codes, nat_lt, ◌&&◌, refl, sym, ap, ap₂, subst, ◌∙◌, arith, append_assoc, if◌then◌else◌, suc, Result, Ok, Err, is_ok}
use Rattle.std.specs.List.{flat_map, join_with_byte}
use Rattle.std.specs.Str.{IsUtf8}
use Rattle.std.specs.Char.{encode_utf8}
use Rattle.std.proofs.lemmas.List.{append-nil, take_at, length-append, take_more, map-append, length-map, length-take-le, take_all}
use Rattle.std.proofs.lemmas.Bool.Decides.{nat_tests}
use Rattle.std.proofs.lemmas.Str.{inside_one, encodes-append, IsCharBoundary-from_take, IsUtf8-string_bytes}
use Rattle.std.specs.Result.{OnOk}
use Rattle.std.specs.Prelude.{String, string_bytes, string_len}
use Rattle.std.specs.String.Boundary.{IsSplitPoint}
use Rattle.std.specs.Prelude.{encode_utf8_all}
use Rattle.ap_term.specs.Printed.{escaped, Extends, comma, text, texts, mark_of_one}
use Rattle.ap_term.specs.declared.shape.TermId.{TermId}
use Rattle.ap_term.specs.Value.{Value, compound, arguments_from}
use Rattle.ap_term.specs.Table.{value_at}
use Rattle.ap_term.proofs.CompareLemmas.{arity_at}

-- a byte that is not escaped
IsPlain : ℕ → Type 0
IsPlain b = (b ≢ 92) × (b ≢ 34) × (b ≢ 10)

escaped-plain : (b : ℕ) → IsPlain b → escaped b ≡ b ∷ []
unfolding IsPlain
escaped-plain b (p, q, r) = grind arith

flat_map-plain : (bs : List ℕ) → ((k : ℕ) → k < length bs → IsPlain (get_or bs k 0)) → flat_map escaped bs ≡ bs
flat_map-plain [] h = refl
flat_map-plain (b ∷ bs) h = ap₂ ◌++◌ (escaped-plain b (h 0 (omega arith))) (flat_map-plain bs (λ k l. h (suc k) (omega arith)))

-- a character that is not escaped is written as it is
pub flat_map-character : (c : ℕ) → c ≢ 92 → c ≢ 34 → c ≢ 10 → flat_map escaped (encode_utf8 c) ≡ encode_utf8 c
unfolding IsPlain
flat_map-character c p q r = flat_map-plain (encode_utf8 c) (λ k l. (not_at k l 92 p (omega arith), not_at k l 34 q (omega arith), not_at k l 10 r (omega arith)))
  where
    not_at : (k : ℕ) → k < length (encode_utf8 c) → (b : ℕ) → c ≢ b → b < 128 → get_or (encode_utf8 c) k 0 ≢ b
    not_at k l b differ low e = differ (inside_one c [] (encode_utf8 c) k (sym (append-nil (encode_utf8 c))) l (subst (λ n. n < 128) (sym e) low) ∙ e)

-- what a push that may fail has written, if it is a text by another name
pub pushed : {E : Type 0} (r : Result (Unit {0}) E) (old new bs cs : List ℕ) → new ≡ (if is_ok r then old ++ bs else old) → cs ≡ bs → OnOk r (new ≡ old ++ cs)
pushed (Ok x) old new bs cs e s = e ∙ ap (λ ts. old ++ ts) (sym s)
pushed (Err x) old new bs cs e s = tt

flat_map-append : (bs cs : List ℕ) → flat_map escaped (bs ++ cs) ≡ flat_map escaped bs ++ flat_map escaped cs
flat_map-append [] cs = refl
flat_map-append (b ∷ bs) cs = ap (λ ds. escaped b ++ ds) (flat_map-append bs cs) ∙ sym (append_assoc (escaped b) (flat_map escaped bs) (flat_map escaped cs))

-- one more character
pub flat_map-more : (old so_far now : List ℕ) (cs : List ℕ) (c : ℕ) → so_far ≡ old ++ 34 ∷ flat_map escaped (encode_utf8_all cs) → now ≡ so_far ++ flat_map escaped (encode_utf8 c)
    → now ≡ old ++ 34 ∷ flat_map escaped (encode_utf8_all (cs ++ c ∷ []))
flat_map-more old so_far now cs c e f =
    let last : encode_utf8_all (cs ++ c ∷ []) ≡ encode_utf8_all cs ++ encode_utf8 c = encodes-append cs (c ∷ []) ∙ ap (λ ds. encode_utf8_all cs ++ ds) (append-nil (encode_utf8 c)) in
    f ∙ ap (λ ds. ds ++ flat_map escaped (encode_utf8 c)) e ∙ append_assoc old (34 ∷ flat_map escaped (encode_utf8_all cs)) (flat_map escaped (encode_utf8 c))
    ∙ ap (λ ds. old ++ 34 ∷ ds) (sym (flat_map-append (encode_utf8_all cs) (encode_utf8 c)) ∙ ap (flat_map escaped) (sym last))

-- the end of the old text is a place at which the new text may be cut
pub split_at_end : {Z : Type 0} (old new : String Z) (n : ℕ) → n ≡ string_len old → Extends (string_bytes old) (string_bytes new) → IsSplitPoint (string_bytes new) n
split_at_end old new n e h =
    let front : take n (string_bytes new) ≡ string_bytes old = ap (take n) h.is ∙ take_at (string_bytes old) h.rest n (sym (e ∙ old.bytes.ok.0)) in
    let within : n ≤ length (string_bytes new) = omega (arith, e ∙ old.bytes.ok.0, ap length h.is, length-append (string_bytes old) h.rest) in
    let cut = IsCharBoundary-from_take (string_bytes new) n (IsUtf8-string_bytes new) within (subst IsUtf8 (sym front) (IsUtf8-string_bytes old)) in
    (cut.0, λ _ l k. cut.1 l k)

-- ---- texts parted by a byte
join_push : (c : ℕ) (x : List ℕ) (xs : List (List ℕ)) (y : List ℕ) → join_with_byte c ((x ∷ xs) ++ y ∷ []) ≡ join_with_byte c (x ∷ xs) ++ c ∷ y
join_push c x [] y = refl
join_push c x (z ∷ xs) y = ap (λ ds. x ++ c ∷ ds) (join_push c z xs y) ∙ sym (append_assoc x (c ∷ join_with_byte c (z ∷ xs)) (c ∷ y))

positive : (n : ℕ) → nat_lt 0 (suc n) ≡ true
positive n = grind (arith, nat_tests)

-- one more text, after a byte unless it is the first
join_after : (c : ℕ) (xs : List (List ℕ)) (y : List ℕ) → join_with_byte c (xs ++ y ∷ []) ≡ join_with_byte c xs ++ (if nat_lt 0 (length xs) then c ∷ [] else []) ++ y
join_after c [] y = refl
join_after c (x ∷ xs) y =
    join_push c x xs y ∙ sym (append_assoc (join_with_byte c (x ∷ xs)) (c ∷ []) y)
    ∙ ap (λ b. join_with_byte c (x ∷ xs) ++ (if b then c ∷ [] else []) ++ y) (sym (positive (length xs)))

module _ (table : List Value) (ids : List TermId) where
  -- the text of the next argument
  join_more : (k : ℕ) (d : TermId) → k < length ids
      → join_with_byte comma (map (λ i. text (value_at table i)) (take (k + 1) ids))
      ≡ join_with_byte comma (map (λ i. text (value_at table i)) (take k ids)) ++ (if nat_lt 0 k then comma ∷ [] else []) ++ text (value_at table (get_or ids k d))
  join_more k d l =
      let f : TermId → List ℕ = λ i. text (value_at table i) in
      let split : map f (take (k + 1) ids) ≡ map f (take k ids) ++ f (get_or ids k d) ∷ [] =
      ap (map f) (take_more ids k d l) ∙ map-append f (take k ids) (get_or ids k d ∷ []) in
      let count : length (map f (take k ids)) ≡ k = length-map (take k ids) f ∙ length-take-le k ids (omega arith) in
      ap (join_with_byte comma) split ∙ join_after comma (map f (take k ids)) (f (get_or ids k d))
      ∙ ap (λ n. join_with_byte comma (map f (take k ids)) ++ (if nat_lt 0 n then comma ∷ [] else []) ++ f (get_or ids k d)) count

  -- the loop's step: what was written before, a comma where one is wanted, and the text of the next argument
  pub written_more : (k : ℕ) (d : TermId) (start so_far parted now : List ℕ) → k < length ids
      → so_far ≡ start ++ join_with_byte comma (map (λ i. text (value_at table i)) (take k ids)) → parted ≡ so_far ++ (if nat_lt 0 k then comma ∷ [] else [])
      → now ≡ parted ++ text (value_at table (get_or ids k d)) → now ≡ start ++ join_with_byte comma (map (λ i. text (value_at table i)) (take (k + 1) ids))
  written_more k d start so_far parted now l e f g =
      let done = join_with_byte comma (map (λ i. text (value_at table i)) (take k ids)) in
      let mark = if nat_lt 0 k then comma ∷ [] else [] in
      let next = text (value_at table (get_or ids k d)) in
      g ∙ ap (λ ds. ds ++ next) (f ∙ ap (λ ds. ds ++ mark) e)
      ∙ ap (λ ds. ds ++ next) (append_assoc start done mark) ∙ append_assoc start (done ++ mark) next
      ∙ ap (λ ds. start ++ ds) (sym (join_more k d l))

texts_from : (table : List Value) (ids : List TermId) → texts (arguments_from (map (value_at table) ids)) ≡ map (λ i. text (value_at table i)) ids
texts_from table [] = refl
texts_from table (id ∷ ids) = ap (λ ds. text (value_at table id) ∷ ds) (texts_from table ids)

-- the whole text of a compound term
pub written_compound : (table : List Value) (v : Value) (name : List ℕ) (ids : List TermId) (k : ℕ) (flag : Bool) (start listed marked now : List ℕ)
    → compound name (arguments_from (map (value_at table) ids)) ≡ v → length ids ≤ k
    → listed ≡ start ++ name ++ codes "(" ++ join_with_byte comma (map (λ i. text (value_at table i)) (take k ids)) → flag ≡ (length name == 0 && length ids == 1)
    → marked ≡ listed ++ (if flag then comma ∷ [] else []) → {E : Type 0} (r : Result (Unit {0}) E) → now ≡ (if is_ok r then marked ++ codes ")" else marked) → OnOk r (now ≡ start ++ text v)
written_compound table v name ids k flag start listed marked now v_is all e flag_is f (Err x) g = tt
written_compound table v name ids k flag start listed marked now v_is all e flag_is f (Ok x) g =
    let vs = arguments_from (map (value_at table) ids) in
    let arguments : join_with_byte comma (map (λ i. text (value_at table i)) (take k ids)) ≡ join_with_byte comma (texts vs) =
    ap (λ is. join_with_byte comma (map (λ i. text (value_at table i)) is)) (take_all k ids all) ∙ ap (join_with_byte comma) (sym (texts_from table ids)) in
    let mark : (if flag then comma ∷ [] else []) ≡ mark_of_one name vs =
    ap (λ b. if b then comma ∷ [] else []) (flag_is ∙ ap (λ n. length name == 0 && n == 1) (sym (arity_at table ids))) in
    let all_of : now ≡ start ++ name ++ codes "(" ++ join_with_byte comma (texts vs) ++ mark_of_one name vs ++ codes ")" =
    g ∙ ap (λ ds. ds ++ codes ")") (f ∙ ap₂ ◌++◌ (e ∙ ap (λ ds. start ++ name ++ codes "(" ++ ds) arguments) mark) in
    let regrouped : start ++ name ++ codes "(" ++ join_with_byte comma (texts vs) ++ mark_of_one name vs ++ codes ")" ≡ start ++ text (compound name vs) = simp append_assoc in
    all_of ∙ regrouped ∙ ap (λ w. start ++ text w) v_is
