-- The places that stand beside a key, where the keys are in order.
use Rattle.std.proofs.Common.{◌≡◌, ℕ, zero, suc, ◌+◌, ◌-◌, ◌<◌, ◌≤◌, Bool, true, false, ltb, cond, List, [], ◌∷◌, map, filter, length, get_or, take, drop, sym, ap, ◌∙◌, arith, ⊎_elim}
use Rattle.std.specs.List.{zip}
use Rattle.std.specs.List.Sorted.{IsSorted, IsPartitionedBy, IsPartitionPoint}
use Rattle.std.specs.Ordering.{is_lt, is_le, ordering_index}
use Rattle.std.proofs.lemmas.Bool.{cases_lt}
use Rattle.std.proofs.lemmas.List.Sorted.{searchable_from_sorted, IsPartitionedBy-ltb}
use Rattle.ap_term.specs.declared.shape.TermId.{TermId}
use Rattle.rel_index.specs.Keys.{is_same_key, key_cmp, places_beside}
use Rattle.rel_index.proofs.KeyOrder.{key_cmp-total, same_is_tie, below_is, not_above_is, below_is_other, between_is_same, above_is_other, below_is_not_above}

-- the elements that pass are n of them, from a place on
record PassBetween {X : Type 0} (p : X → Bool) (xs : List X) (from n : ℕ) : Type 0 where
  before : (i : ℕ) (d : X) → i < from → i < length xs → p (get_or xs i d) ≡ false
  inside : (i : ℕ) (d : X) → from ≤ i → i < from + n → i < length xs → p (get_or xs i d) ≡ true
  behind : (i : ℕ) (d : X) → from + n ≤ i → i < length xs → p (get_or xs i d) ≡ false

-- what stands beside those that pass
beside : {X : Type 0} (p : X → Bool) (xs : List X) (ys : List ℕ) (from n : ℕ) → length xs ≡ length ys → from + n ≤ length xs → PassBetween p xs from n
    → take n (drop from ys) ≡ map (λ e. e.1) (filter (λ e. p e.0) (zip xs ys))
beside {X = X} p [] [] from n same within h =
    let no_more : n ≡ 0 = omega arith in
    ap (λ m. take m (drop from [])) no_more
beside {X = X} p [] (y ∷ ys) from n same within h = absurd (omega arith)
beside {X = X} p (x ∷ xs) [] from n same within h = absurd (omega arith)
beside {X = X} p (x ∷ xs) (y ∷ ys) zero zero same within h =
    let out : p x ≡ false = h.behind 0 x (omega arith) (omega arith) in
    let rest = beside p xs ys 0 0 (omega arith) (omega arith) (record { before = λ i d l low. absurd (omega arith); inside = λ i d m l low. absurd (omega arith); behind = λ i d l low. h.behind (suc i) d (omega arith) (omega arith) }) in
    rest ∙ ap (λ b. map (λ (e : X × ℕ). e.1) (cond b ((x, y) ∷ filter (λ e. p e.0) (zip xs ys)) (filter (λ e. p e.0) (zip xs ys)))) (sym out)
beside {X = X} p (x ∷ xs) (y ∷ ys) zero (suc n) same within h =
    let here : p x ≡ true = h.inside 0 x (omega arith) (omega arith) (omega arith) in
    let rest = beside p xs ys 0 n (omega arith) (omega arith) (record { before = λ i d l low. absurd (omega arith); inside = λ i d m l low. h.inside (suc i) d (omega arith) (omega arith) (omega arith); behind = λ i d l low. h.behind (suc i) d (omega arith) (omega arith) }) in
    ap (λ zs. y ∷ zs) rest ∙ ap (λ b. map (λ (e : X × ℕ). e.1) (cond b ((x, y) ∷ filter (λ e. p e.0) (zip xs ys)) (filter (λ e. p e.0) (zip xs ys)))) (sym here)
beside {X = X} p (x ∷ xs) (y ∷ ys) (suc f) n same within h =
    let out : p x ≡ false = h.before 0 x (omega arith) (omega arith) in
    let rest = beside p xs ys f n (omega arith) (omega arith) (record { before = λ i d l low. h.before (suc i) d (omega arith) (omega arith); inside = λ i d m l low. h.inside (suc i) d (omega arith) (omega arith) (omega arith); behind = λ i d l low. h.behind (suc i) d (omega arith) (omega arith) }) in
    rest ∙ ap (λ b. map (λ (e : X × ℕ). e.1) (cond b ((x, y) ∷ filter (λ e. p e.0) (zip xs ys)) (filter (λ e. p e.0) (zip xs ys)))) (sym out)

-- a key is below the one that is looked for, or not above it
abbrev pub is_below : List TermId → List TermId → Bool
is_below key k = is_lt (key_cmp k key)

abbrev pub is_not_above : List TermId → List TermId → Bool
is_not_above key k = is_le (key_cmp k key)

-- a test that answers alike parts a list alike
same_parts : {X : Type 0} (p q : X → Bool) → ((x : X) → q x ≡ p x) → (xs : List X) → IsPartitionedBy p xs → IsPartitionedBy q xs
same_parts p q alike xs parted i j d le within passed = alike (get_or xs i d) ∙ parted i j d le within (sym (alike (get_or xs j d)) ∙ passed)

-- the keys below, and those not above, stand in front
pub below_in_front : (key : List TermId) (keys : List (List TermId)) → IsSorted key_cmp keys → IsPartitionedBy (is_below key) keys
below_in_front key keys up = same_parts (λ k. ltb (ordering_index (key_cmp k key)) 1) (is_below key) (λ k. below_is (key_cmp k key)) keys
    (IsPartitionedBy-ltb (λ k. ordering_index (key_cmp k key)) keys 1 (searchable_from_sorted key_cmp-total (λ k. k) keys key up))

pub not_above_in_front : (key : List TermId) (keys : List (List TermId)) → IsSorted key_cmp keys → IsPartitionedBy (is_not_above key) keys
not_above_in_front key keys up = same_parts (λ k. ltb (ordering_index (key_cmp k key)) 2) (is_not_above key) (λ k. not_above_is (key_cmp k key)) keys
    (IsPartitionedBy-ltb (λ k. ordering_index (key_cmp k key)) keys 2 (searchable_from_sorted key_cmp-total (λ k. k) keys key up))

module _ (key : List TermId) (keys : List (List TermId)) (from to : ℕ) (from_in : from ≤ length keys) (to_in : to ≤ length keys)
    (below : IsPartitionPoint (λ k. is_below key k ≡ true) (λ k. is_below key k ≡ false) keys from)
    (not_above : IsPartitionPoint (λ k. is_not_above key k ≡ true) (λ k. is_not_above key k ≡ false) keys to) where
  pub from_first : from ≤ to
  from_first = ⊎_elim (λ l. absurd (below_is_not_above (key_cmp (get_or keys to []) key) (below.0 to [] (omega arith) l) (not_above.1 to [] (omega arith) (omega arith)))) (λ le. le) (cases_lt to from)

  -- the places between them are those beside the key
  pub found_places : (places : List ℕ) → length keys ≡ length places → take (to - from) (drop from places) ≡ places_beside key (zip keys places)
  found_places places same =
      let le : from ≤ to = from_first in
      beside (λ k. is_same_key k key) keys places from (to - from) same (omega arith) (record {
        before = λ i d l low. same_is_tie (get_or keys i d) key ∙ below_is_other (key_cmp (get_or keys i d) key) (below.0 i d (omega arith) l);
        inside = λ i d m l low. same_is_tie (get_or keys i d) key ∙ between_is_same (key_cmp (get_or keys i d) key) (below.1 i d m low) (not_above.0 i d (omega arith) (omega arith));
        behind = λ i d l low. same_is_tie (get_or keys i d) key ∙ above_is_other (key_cmp (get_or keys i d) key) (not_above.1 i d (omega arith) low);
      })
