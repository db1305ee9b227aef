-- Lists of pairs in order, by recursion and by places.
use Rattle.std.proofs.Common.{◌≡◌, zero, suc, ◌<◌, List, [], ◌∷◌, ◌++◌, get_or, map, All, AllPairs, Contains, sym, ap, subst, ◌∙◌, inl, inr, ⊎_elim, arith, Ordering, Less, Equal}
use Rattle.std.specs.Cmp.{IsTotalOrder}
use Rattle.std.specs.Ordering.{ordering_reverse}
use Rattle.std.proofs.lemmas.Cmp.{on_total, then_total}
use Rattle.std.proofs.lemmas.List.{get_or-map, length-map}
use Rattle.std.proofs.lemmas.List.Elements.{All-head, All-tail, All-nil, All-cons, All-contains, Contains-get_or, Contains-append_left, Contains-append_right, Contains-append_cases}
use Rattle.std.proofs.lemmas.List.Kept.{AllPairs-cons}
use denote.Ref.{Bor}
use Rattle.ap_term.specs.Value.{Value}
use Rattle.sets.proofs.LiteralLemmas.{literals_cmp-total}
use Rattle.ap_term.proofs.OrderLemmas.{value_cmp-total}
use Rattle.ground_agg.specs.Tuples.{tuple_value}
use Rattle.ground_agg.specs.Merged.{AreInOrder, merge, pair_cmp}
use Rattle.ground_agg.specs.declared.pair.Pair.{Pair}
use Rattle.ground_agg.proofs.MergeLemmas.{IsIn, Each, Ascends, in_merged, ascends_merged}

pub pair_cmp-total : (table : List Value) → IsTotalOrder (pair_cmp table)
pair_cmp-total table = then_total (on_total (λ (p : Pair). tuple_value table p.tuple) value_cmp-total) (on_total (λ (p : Pair). p.condition) literals_cmp-total)

module _ {X : Type 0} where
  pub each_from : (P : X → Type 0) (xs : List X) → All P xs → Each P xs
  each_from P [] h = tt
  each_from P (x ∷ xs) h = (All-head P x xs h, each_from P xs (All-tail P x xs h))

  pub all_from : (P : X → Type 0) (xs : List X) → Each P xs → All P xs
  all_from P [] h = All-nil P
  all_from P (x ∷ xs) h = All-cons P x xs h.0 (all_from P xs h.1)

  pub is_in : (z : X) (xs : List X) → Contains xs z → IsIn z xs
  is_in z [] (k, low, is) = absurd (omega arith)
  is_in z (x ∷ xs) (zero, low, is) = inl is
  is_in z (x ∷ xs) (suc k, low, is) = inr (is_in z xs (k, omega arith, is))

  pub contains_from : (z : X) (xs : List X) → IsIn z xs → Contains xs z
  contains_from z [] i = absurd i
  contains_from z (x ∷ xs) i = ⊎_elim (λ e. (0, omega arith, e)) (λ r. let c = contains_from z xs r in (suc c.0, omega (arith, c.1), c.2)) i

  pub ascends_from : (cmp : X → X → Ordering) (xs : List X) → AllPairs (λ x y. cmp x y ≡ Less) xs → Ascends cmp xs
  ascends_from cmp [] h = tt
  ascends_from cmp (x ∷ xs) h =
      (each_from (λ y. cmp x y ≡ Less) xs (λ k d low. h 0 (suc k) d (omega arith) (omega arith)), ascends_from cmp xs (λ i j d before low. h (suc i) (suc j) d (omega arith) (omega arith)))

  pub pairs_from : (cmp : X → X → Ordering) (xs : List X) → Ascends cmp xs → AllPairs (λ x y. cmp x y ≡ Less) xs
  pairs_from cmp [] h = λ i j d before low. absurd (omega arith)
  pairs_from cmp (x ∷ xs) h = AllPairs-cons (λ a b. cmp a b ≡ Less) x xs (all_from (λ y. cmp x y ≡ Less) xs h.0) (pairs_from cmp xs h.1)

-- two halves in order merge into all in order
module _ (table : List Value) (P : Pair → Type 0) (same : (p q : Pair) → P p → P q → pair_cmp table p q ≡ Equal → p ≡ q) where
  pub merged_halves : (found front back left right : List Pair) → found ≡ front ++ back → AreInOrder table front left → AreInOrder table back right → Each P left → Each P right
      → AreInOrder table found (merge (pair_cmp table) left right)
  merged_halves found front back left right split l r each_left each_right = record {
    ordered = pairs_from (pair_cmp table) (merge (pair_cmp table) left right)
        (ascends_merged (pair_cmp table) P (pair_cmp-total table).trans (λ p q e. (pair_cmp-total table).antisymm q p ∙ ap ordering_reverse e) same left right
        each_left (ascends_from (pair_cmp table) left l.ordered) each_right (ascends_from (pair_cmp table) right r.ordered));
    members = λ p. (
      λ c. subst (λ ps. Contains ps p) (sym split) (⊎_elim (λ i. Contains-append_left front back p ((l.members p).0 (contains_from p left i))) (λ i. Contains-append_right front back p ((r.members p).0 (contains_from p right i)))
          ((in_merged (pair_cmp table) P same p left right each_left each_right).0 (is_in p (merge (pair_cmp table) left right) c))),
      λ c. contains_from p (merge (pair_cmp table) left right) ((in_merged (pair_cmp table) P same p left right each_left each_right).1
          (⊎_elim (λ k. inl (is_in p left ((l.members p).1 k))) (λ k. inr (is_in p right ((r.members p).1 k))) (Contains-append_cases front back p (subst (λ ps. Contains ps p) split c)))),
    );
  }

-- what holds of each pair that was found holds of each in order
pub pairs_within : (table : List Value) (P : Pair → Type 0) (found : List Pair) (ps : List (Bor Pair)) → All P found → AreInOrder table found (map (λ p. p.now) ps) → All (λ p. P p.now) ps
pairs_within table P found ps h o k d low =
    let at : get_or (map (λ (p : Bor Pair). p.now) ps) k d.now ≡ (get_or ps k d).now = get_or-map (λ (p : Bor Pair). p.now) ps k d d.now low in
    let here : Contains (map (λ (p : Bor Pair). p.now) ps) (get_or (map (λ (p : Bor Pair). p.now) ps) k d.now) =
    Contains-get_or (map (λ (p : Bor Pair). p.now) ps) k d.now (subst (λ n. k < n) (sym (length-map ps (λ (p : Bor Pair). p.now))) low) in
    subst P at (All-contains P found (get_or (map (λ (p : Bor Pair). p.now) ps) k d.now) h ((o.members (get_or (map (λ (p : Bor Pair). p.now) ps) k d.now)).0 here))
