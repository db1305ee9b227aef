-- The order of keys is total, and its ties are the keys that are the same.
use Rattle.std.proofs.Common.{◌≡◌, ℕ, true, false, not, ◌&&◌, ltb, List, map, Ordering, Less, Equal, Greater, nat_cmp, refl, sym, ap, ◌∙◌}
use Rattle.std.specs.Ordering.{on, is_eq, is_lt, is_le, ordering_index, ordering_reverse}
use Rattle.std.specs.Cmp.{IsTotalOrder, unsigned_ties}
use Rattle.std.specs.Cmp.Lexicographic.{lists_ties}
use Rattle.std.specs.List.Sorted.{IsStableByKey, ties}
use Rattle.std.proofs.lemmas.Cmp.{lists_total, on_total, nat_cmp_total}
use Rattle.std.proofs.lemmas.List.Elements.{filter_agree}
use Rattle.ap_term.specs.declared.shape.TermId.{TermId}
use Rattle.rel_index.specs.Keys.{is_same_key, key_cmp, places_beside}

pub key_cmp-total : IsTotalOrder key_cmp
key_cmp-total = lists_total (on_total (λ id. id.0) nat_cmp_total)

-- the same keys are those that tie
pub same_is_tie : (k key : List TermId) → is_same_key k key ≡ is_eq (key_cmp k key)
same_is_tie = lists_ties (on (λ id. id.0) nat_cmp) (λ a b. unsigned_ties a.0 b.0)

tie_is_equal : (o : Ordering) → (not (is_lt (ordering_reverse o)) && not (is_lt o)) ≡ is_eq o
tie_is_equal Less = refl
tie_is_equal Equal = refl
tie_is_equal Greater = refl

tied : (key : List TermId) (e : List TermId × ℕ) → ties (λ (x : List TermId × ℕ) (y : List TermId × ℕ). is_lt (key_cmp x.0 y.0)) (key, 0) e ≡ is_same_key e.0 key
tied key e =
    ap (λ o. not (is_lt o) && not (is_lt (key_cmp e.0 key))) (key_cmp-total.antisymm key e.0) ∙ tie_is_equal (key_cmp e.0 key) ∙ sym (same_is_tie e.0 key)

-- a stable sort by the keys leaves the places beside a key in their order
pub stable_places : (key : List TermId) (old new : List (List TermId × ℕ)) → IsStableByKey (λ e. e.0) key_cmp old new → places_beside key new ≡ places_beside key old
stable_places key old new stable =
    let by_tie = λ (es : List (List TermId × ℕ)). filter_agree (ties (λ (x : List TermId × ℕ) (y : List TermId × ℕ). is_lt (key_cmp x.0 y.0)) (key, 0)) (λ e. is_same_key e.0 key) (tied key) es in
    ap (map (λ e. e.1)) (sym (by_tie new) ∙ stable (key, 0) ∙ by_tie old)

-- ---- what two searches tell of how a key compares
pub below_is : (o : Ordering) → is_lt o ≡ ltb (ordering_index o) 1
below_is Less = refl
below_is Equal = refl
below_is Greater = refl

pub not_above_is : (o : Ordering) → is_le o ≡ ltb (ordering_index o) 2
not_above_is Less = refl
not_above_is Equal = refl
not_above_is Greater = refl

pub below_is_other : (o : Ordering) → is_lt o ≡ true → is_eq o ≡ false
below_is_other Less e = refl
below_is_other Equal e = cc
below_is_other Greater e = refl

pub between_is_same : (o : Ordering) → is_lt o ≡ false → is_le o ≡ true → is_eq o ≡ true
between_is_same Less e f = cc
between_is_same Equal e f = refl
between_is_same Greater e f = cc

pub above_is_other : (o : Ordering) → is_le o ≡ false → is_eq o ≡ false
above_is_other Less e = refl
above_is_other Equal e = cc
above_is_other Greater e = refl

pub below_is_not_above : (o : Ordering) → is_lt o ≡ true → is_le o ≡ false → ⊥
below_is_not_above Less e f = cc
below_is_not_above Equal e f = cc
below_is_not_above Greater e f = cc
