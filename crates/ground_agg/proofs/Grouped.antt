-- Pairs in order make the rows that gather them.
use Rattle.std.proofs.Common.{◌≡◌, ◌↔◌, ℤ, Bool, true, false, cond, eqb-true, eq-eqb, List, [], ◌∷◌, ◌++◌, map, All, AllPairs, refl, sym, ap, ap₂, subst, ◌∙◌, inl, inr, ⊎_elim, Ordering, Less, Equal, Greater}
use Rattle.std.specs.Prelude.{◌⊎◌}
use Rattle.std.specs.Cmp.{IsTotalOrder}
use Rattle.std.specs.Ordering.{ordering_then}
use Rattle.std.specs.Cmp.Lexicographic.{pointwise_decides}
use Rattle.std.proofs.lemmas.Cmp.{on_total, tied_itself}
use Rattle.ap_term.specs.declared.shape.TermId.{TermId}
use Rattle.sets.proofs.LiteralLemmas.{literals_cmp-total}
use Rattle.ap_term.specs.Value.{Value}
use Rattle.ap_term.specs.Table.{HasDistinctValues}
use Rattle.ap_term.proofs.OrderLemmas.{value_cmp-total}
use Rattle.ground_agg.specs.Tuples.{tuple_cmp, tuple_value, condition_cmp}
use Rattle.ground_agg.specs.Gathered.{IsPairOf, IsGathered}
use Rattle.ground_agg.specs.Merged.{AreInOrder, pair_cmp}
use Rattle.ground_agg.specs.Rows.{is_same_tuple, row_of, rows_from, rows_of, with_condition}
use Rattle.ground_agg.specs.declared.pair.Pair.{Pair}
use Rattle.ground_agg.specs.declared.row.TupleRow.{TupleRow}
use Rattle.ground_agg.proofs.MergeLemmas.{IsIn, Each, Ascends}
use Rattle.ground_agg.proofs.InOrder.{all_from, each_from, is_in, contains_from, ascends_from, pairs_from}
use Rattle.ground_agg.proofs.SamePairs.{same_tuples}

-- ---- lists by recursion
module _ {X : Type 0} where
  -- a fact of one of them
  abbrev pub Some_of : (X → Type 0) → List X → Type 0
  Some_of P [] = ⊥
  Some_of P (x ∷ xs) = P x ⊎ Some_of P xs

  each_both : (P Q R : X → Type 0) → ((x : X) → P x → Q x → R x) → (xs : List X) → Each P xs → Each Q xs → Each R xs
  each_both P Q R f [] h k = tt
  each_both P Q R f (x ∷ xs) h k = (f x h.0 k.0, each_both P Q R f xs h.1 k.1)

  each_push : (P : X → Type 0) (xs : List X) (y : X) → Each P xs → P y → Each P (xs ++ y ∷ [])
  each_push P [] y h p = (p, tt)
  each_push P (x ∷ xs) y h p = (h.0, each_push P xs y h.1 p)

  ascends_push : (cmp : X → X → Ordering) (xs : List X) (y : X) → Ascends cmp xs → Each (λ x. cmp x y ≡ Less) xs → Ascends cmp (xs ++ y ∷ [])
  ascends_push cmp [] y h below = (tt, tt)
  ascends_push cmp (x ∷ xs) y h below = (each_push (λ z. cmp x z ≡ Less) xs y h.0 below.0, ascends_push cmp xs y h.1 below.1)

  in_push : (z : X) (xs : List X) (y : X) → IsIn z (xs ++ y ∷ []) ↔ (IsIn z xs ⊎ (y ≡ z))
  in_push z [] y = (λ i. ⊎_elim (λ e. inr e) (λ k. absurd k) i, λ i. ⊎_elim (λ k. absurd k) (λ e. inl e) i)
  in_push z (x ∷ xs) y =
      let behind = in_push z xs y in (
        λ i. ⊎_elim (λ e. inl (inl e)) (λ r. ⊎_elim (λ k. inl (inr k)) (λ e. inr e) (behind.0 r)) i,
        λ i. ⊎_elim (λ k. ⊎_elim (λ e. inl e) (λ r. inr (behind.1 (inl r))) k) (λ e. inr (behind.1 (inr e))) i,
      )

  each_in : (P : X → Type 0) (xs : List X) (z : X) → Each P xs → IsIn z xs → P z
  each_in P [] z h i = absurd i
  each_in P (x ∷ xs) z h i = ⊎_elim (λ e. subst P e h.0) (λ r. each_in P xs z h.1 r) i

  some_from : (P : X → Type 0) (xs : List X) (z : X) → IsIn z xs → P z → Some_of P xs
  some_from P [] z i p = absurd i
  some_from P (x ∷ xs) z i p = ⊎_elim (λ e. inl (subst P (sym e) p)) (λ r. inr (some_from P xs z r p)) i

  some_is : (P : X → Type 0) (xs : List X) → Some_of P xs → (z : X) × IsIn z xs × P z
  some_is P [] s = absurd s
  some_is P (x ∷ xs) s = ⊎_elim (λ p. (x, inl refl, p)) (λ r. let (z, i, p) = some_is P xs r in (z, inr i, p)) s

-- ---- the orders
less_parts : (o p : Ordering) → ordering_then o p ≡ Less → (o ≡ Less) ⊎ ((o ≡ Equal) × (p ≡ Less))
less_parts Less p e = inl refl
less_parts Equal p e = inr (refl, e)
less_parts Greater p e = cc

tuple_cmp-total : (table : List Value) → IsTotalOrder (tuple_cmp table)
tuple_cmp-total table = on_total (tuple_value table) value_cmp-total

condition_cmp-total : IsTotalOrder condition_cmp
condition_cmp-total = literals_cmp-total

same_decides : (a b : List TermId) → (is_same_tuple a b ≡ true → a ≡ b) × (a ≡ b → is_same_tuple a b ≡ true)
same_decides = pointwise_decides (λ x y. (λ e i. record { 0 = eqb-true x.0 y.0 e i }, λ e. eq-eqb x.0 y.0 (ap (λ id. id.0) e)))

never_below_itself : (table : List Value) (t : List TermId) → tuple_cmp table t t ≡ Less → ⊥
never_below_itself table t e = let tie : tuple_cmp table t t ≡ Equal = tied_itself (tuple_cmp-total table) t in cc

-- ---- rows of pairs
module _ (table : List Value) (apart : HasDistinctValues table) where
  -- a pair behind a row: of a later tuple, or with a later condition of its tuple
  abbrev IsBehind : TupleRow → Pair → Type 0
  IsBehind row p = (tuple_cmp table row.tuple p.tuple ≡ Less) ⊎ ((row.tuple ≡ p.tuple) × Each (λ c. condition_cmp c p.condition ≡ Less) row.conditions)

  -- a row that was begun, and the pairs behind it
  record IsBegun (row : TupleRow) (ps : List Pair) : Type 0 where
    valid : Each (IsPairOf table) ps
    ascends : Ascends (pair_cmp table) ps
    behind : Each (IsBehind row) ps
    sorted : Ascends condition_cmp row.conditions
    some : (c : List ℤ) × IsIn c row.conditions

  pair_parts : (p q : Pair) → IsPairOf table p → IsPairOf table q → pair_cmp table p q ≡ Less → (tuple_cmp table p.tuple q.tuple ≡ Less) ⊎ ((p.tuple ≡ q.tuple) × (condition_cmp p.condition q.condition ≡ Less))
  pair_parts p q h k e =
      ⊎_elim (λ l. inl l) (λ b. inr (same_tuples table apart p.tuple q.tuple h.members k.members b.0, b.1)) (less_parts (tuple_cmp table p.tuple q.tuple) (condition_cmp p.condition q.condition) e)

  begin : (p : Pair) (ps : List Pair) → Each (IsPairOf table) (p ∷ ps) → Ascends (pair_cmp table) (p ∷ ps) → IsBegun (row_of p) ps
  begin p ps valid up = record {
    valid = valid.1;
    ascends = up.1;
    behind = each_both (IsPairOf table) (λ q. pair_cmp table p q ≡ Less) (IsBehind (row_of p)) (λ q k e. ⊎_elim (λ l. inl l) (λ b. inr (b.0, (b.1, tt))) (pair_parts p q valid.0 k e)) ps valid.1 up.0;
    sorted = (tt, tt);
    some = (p.condition, inl refl);
  }

  same_tuple : (row : TupleRow) (p : Pair) → is_same_tuple p.tuple row.tuple ≡ true → IsBehind row p → (row.tuple ≡ p.tuple) × Each (λ c. condition_cmp c p.condition ≡ Less) row.conditions
  same_tuple row p same h =
      let is : p.tuple ≡ row.tuple = (same_decides p.tuple row.tuple).0 same in
      ⊎_elim (λ l. absurd (never_below_itself table row.tuple (subst (λ t. tuple_cmp table row.tuple t ≡ Less) is l))) (λ b. b) h

  go_on : (row : TupleRow) (p : Pair) (ps : List Pair) → is_same_tuple p.tuple row.tuple ≡ true → IsBegun row (p ∷ ps) → IsBegun (with_condition row p) ps
  go_on row p ps same h =
      let here = same_tuple row p same h.behind.0 in
      record {
        valid = h.valid.1;
        ascends = h.ascends.1;
        behind = each_both (IsPairOf table) (λ q. pair_cmp table p q ≡ Less) (IsBehind (with_condition row p))
            (λ q k e. ⊎_elim (λ l. inl (subst (λ t. tuple_cmp table t q.tuple ≡ Less) (sym here.0) l))
            (λ b. inr (
              here.0 ∙ b.0,
              each_push (λ c. condition_cmp c q.condition ≡ Less) row.conditions p.condition
                  (each_both (λ c. condition_cmp c p.condition ≡ Less) (λ c. condition_cmp c p.condition ≡ Less) (λ c. condition_cmp c q.condition ≡ Less) (λ c l m. condition_cmp-total.trans c p.condition q.condition l b.1) row.conditions here.1 here.1) b.1,
            ))
            (pair_parts p q h.valid.0 k e)) ps h.valid.1 h.ascends.0;
        sorted = ascends_push condition_cmp row.conditions p.condition h.sorted here.1;
        some = (p.condition, (in_push p.condition row.conditions p.condition).1 (inr refl));
      }

  -- the tuples of rows are those of the row that was begun and of the pairs
  each_tuple : (P : List TermId → Type 0) (row : TupleRow) (ps : List Pair) → P row.tuple → Each (λ p. P p.tuple) ps → Each (λ r. P r.tuple) (rows_from row ps)
  each_tuple P row [] h k = (h, tt)
  each_tuple P row (p ∷ ps) h k =
      elim (is_same_tuple p.tuple row.tuple) as (λ b. Each (λ (r : TupleRow). P r.tuple) (cond b (rows_from (with_condition row p) ps) (row ∷ rows_from (row_of p) ps))) [
        | true ↦ each_tuple P (with_condition row p) ps h k.1
        | false ↦ (h, each_tuple P (row_of p) ps k.0 k.1)
      ]

  later : (row : TupleRow) (p : Pair) (ps : List Pair) → is_same_tuple p.tuple row.tuple ≡ false → IsBegun row (p ∷ ps) → Each (λ r. tuple_cmp table row.tuple r.tuple ≡ Less) (rows_from (row_of p) ps)
  later row p ps other h =
      let first : tuple_cmp table row.tuple p.tuple ≡ Less = ⊎_elim (λ l. l) (λ b. absurd (let same : is_same_tuple p.tuple row.tuple ≡ true = (same_decides p.tuple row.tuple).1 (sym b.0) in cc)) h.behind.0 in
      each_tuple (λ t. tuple_cmp table row.tuple t ≡ Less) (row_of p) ps first
      (each_both (IsPairOf table) (λ q. pair_cmp table p q ≡ Less) (λ q. tuple_cmp table row.tuple q.tuple ≡ Less)
      (λ q k e. ⊎_elim (λ l. (tuple_cmp-total table).trans row.tuple p.tuple q.tuple first l) (λ b. subst (λ t. tuple_cmp table row.tuple t ≡ Less) b.0 first) (pair_parts p q h.valid.0 k e)) ps h.valid.1 h.ascends.0)

  -- what is so of a row that was begun is so of its rows, whatever the next pair's tuple
  by_tuple : (Q : List TupleRow → Type 0) (row : TupleRow) (p : Pair) (ps : List Pair) → (is_same_tuple p.tuple row.tuple ≡ true → Q (rows_from (with_condition row p) ps))
      → (is_same_tuple p.tuple row.tuple ≡ false → Q (row ∷ rows_from (row_of p) ps)) → Q (rows_from row (p ∷ ps))
  by_tuple Q row p ps same other = go (is_same_tuple p.tuple row.tuple) same other
    where
      go : (b : Bool) → (b ≡ true → Q (rows_from (with_condition row p) ps)) → (b ≡ false → Q (row ∷ rows_from (row_of p) ps)) → Q (cond b (rows_from (with_condition row p) ps) (row ∷ rows_from (row_of p) ps))
      go true f g = f refl
      go false f g = g refl

  rows_ascend : (row : TupleRow) (ps : List Pair) → IsBegun row ps → Ascends (λ (r : TupleRow) (s : TupleRow). tuple_cmp table r.tuple s.tuple) (rows_from row ps)
  rows_ascend row [] h = (tt, tt)
  rows_ascend row (p ∷ ps) h =
      by_tuple (Ascends (λ (r : TupleRow) (s : TupleRow). tuple_cmp table r.tuple s.tuple)) row p ps (λ e. rows_ascend (with_condition row p) ps (go_on row p ps e h))
      (λ e. (later row p ps e h, rows_ascend (row_of p) ps (begin p ps h.valid h.ascends)))

  -- of each row, the conditions ascend and there is one
  abbrev IsRow : TupleRow → Type 0
  IsRow r = Ascends condition_cmp r.conditions × ((c : List ℤ) × IsIn c r.conditions)

  rows_sorted : (row : TupleRow) (ps : List Pair) → IsBegun row ps → Each IsRow (rows_from row ps)
  rows_sorted row [] h = ((h.sorted, h.some), tt)
  rows_sorted row (p ∷ ps) h =
      by_tuple (Each IsRow) row p ps (λ e. rows_sorted (with_condition row p) ps (go_on row p ps e h)) (λ e. ((h.sorted, h.some), rows_sorted (row_of p) ps (begin p ps h.valid h.ascends)))

  -- a row of this tuple with this condition
  abbrev Lists : List TermId → List ℤ → TupleRow → Type 0
  Lists t c r = (r.tuple ≡ t) × IsIn c r.conditions

  pair_is : (t : List TermId) (c : List ℤ) (p : Pair) → (p ≡ record { tuple = t; condition = c }) ↔ ((p.tuple ≡ t) × (p.condition ≡ c))
  pair_is t c p = (λ e. (ap (λ q. q.tuple) e, ap (λ q. q.condition) e), λ h. ap₂ (λ u d. record { tuple = u; condition = d }) h.0 h.1)

  rows_list : (t : List TermId) (c : List ℤ) (row : TupleRow) (ps : List Pair) → IsBegun row ps → Some_of (Lists t c) (rows_from row ps) ↔ (Lists t c row ⊎ IsIn (record { tuple = t; condition = c }) ps)
  rows_list t c row [] h = (λ s. s, λ s. s)
  rows_list t c row (p ∷ ps) h =
      by_tuple (λ rows. Some_of (Lists t c) rows ↔ (Lists t c row ⊎ IsIn (record { tuple = t; condition = c }) (p ∷ ps))) row p ps
      (λ e. let here : row.tuple ≡ p.tuple = (same_tuple row p e h.behind.0).0 in
      let rest = rows_list t c (with_condition row p) ps (go_on row p ps e h) in (
        λ s. ⊎_elim (λ l. ⊎_elim (λ i. inl (l.0, i)) (λ is. inr (inl ((pair_is t c p).1 (sym here ∙ l.0, is)))) ((in_push c row.conditions p.condition).0 l.1)) (λ i. inr (inr i)) (rest.0 s),
        λ s. rest.1 (⊎_elim (λ l. inl (l.0, (in_push c row.conditions p.condition).1 (inl l.1)))
            (λ i. ⊎_elim (λ is. let parts = (pair_is t c p).0 is in inl (here ∙ parts.0, (in_push c row.conditions p.condition).1 (inr parts.1))) (λ k. inr k) i) s),
      ))
      (λ e. let rest = rows_list t c (row_of p) ps (begin p ps h.valid h.ascends) in (
        λ s. ⊎_elim (λ l. inl l) (λ r. ⊎_elim (λ l. inr (inl ((pair_is t c p).1 (l.0, ⊎_elim (λ is. is) (λ k. absurd k) l.1)))) (λ i. inr (inr i)) (rest.0 r)) s,
        λ s. ⊎_elim (λ l. inl l) (λ i. inr (rest.1 (⊎_elim (λ is. let parts = (pair_is t c p).0 is in inl (parts.0, inl parts.1)) (λ k. inr k) i))) s,
      ))

  -- two rows of one tuple are one
  one_row : (rows : List TupleRow) (r s : TupleRow) → Ascends (λ (a : TupleRow) (b : TupleRow). tuple_cmp table a.tuple b.tuple) rows → IsIn r rows → IsIn s rows → r.tuple ≡ s.tuple → r ≡ s
  one_row [] r s up i j e = absurd i
  one_row (x ∷ xs) r s up i j e =
      ⊎_elim (λ x_is_r. ⊎_elim (λ x_is_s. sym x_is_r ∙ x_is_s)
      (λ behind. absurd (never_below_itself table s.tuple (subst (λ t. tuple_cmp table t s.tuple ≡ Less) (ap (λ (a : TupleRow). a.tuple) x_is_r ∙ e) (each_in (λ (b : TupleRow). tuple_cmp table x.tuple b.tuple ≡ Less) xs s up.0 behind)))) j)
      (λ in_xs. ⊎_elim (λ x_is_s. absurd (never_below_itself table r.tuple (subst (λ t. tuple_cmp table t r.tuple ≡ Less) (ap (λ (a : TupleRow). a.tuple) x_is_s ∙ sym e) (each_in (λ (b : TupleRow). tuple_cmp table x.tuple b.tuple ≡ Less) xs r up.0 in_xs))))
      (λ behind. one_row xs r s up.1 in_xs behind e) j) i

  -- ---- all of it
  tuple_of_one : (rows : List TupleRow) (t : List TermId) → IsIn t (map (λ (r : TupleRow). r.tuple) rows) → Some_of (λ (r : TupleRow). r.tuple ≡ t) rows
  tuple_of_one [] t i = absurd i
  tuple_of_one (r ∷ rows) t i = ⊎_elim (λ e. inl e) (λ k. inr (tuple_of_one rows t k)) i

  one_of_tuple : (rows : List TupleRow) (t : List TermId) → Some_of (λ (r : TupleRow). r.tuple ≡ t) rows → IsIn t (map (λ (r : TupleRow). r.tuple) rows)
  one_of_tuple [] t s = absurd s
  one_of_tuple (r ∷ rows) t s = ⊎_elim (λ e. inl e) (λ k. inr (one_of_tuple rows t k)) s

  in_map : (ps : List Pair) (p : Pair) → IsIn p ps → IsIn p.tuple (map (λ (q : Pair). q.tuple) ps)
  in_map [] p i = absurd i
  in_map (q ∷ ps) p i = ⊎_elim (λ e. inl (ap (λ (x : Pair). x.tuple) e)) (λ k. inr (in_map ps p k)) i

  from_map : (ps : List Pair) (t : List TermId) → IsIn t (map (λ (q : Pair). q.tuple) ps) → (p : Pair) × IsIn p ps × (p.tuple ≡ t)
  from_map [] t i = absurd i
  from_map (q ∷ ps) t i = ⊎_elim (λ e. (q, inl refl, e)) (λ k. let (p, j, e) = from_map ps t k in (p, inr j, e)) i

  -- what is known of the rows of pairs in order
  record AreRows (ps : List Pair) (rows : List TupleRow) : Type 0 where
    ascend : Ascends (λ (r : TupleRow) (s : TupleRow). tuple_cmp table r.tuple s.tuple) rows
    each : Each IsRow rows
    list : (t : List TermId) (c : List ℤ) → Some_of (Lists t c) rows ↔ IsIn (record { tuple = t; condition = c }) ps

  are_rows : (ps : List Pair) → Each (IsPairOf table) ps → Ascends (pair_cmp table) ps → AreRows ps (rows_of ps)
  are_rows [] valid up = record { ascend = tt; each = tt; list = λ t c. (λ s. s, λ s. s) }
  are_rows (p ∷ ps) valid up =
      let begun = begin p ps valid up in
      record {
        ascend = rows_ascend (row_of p) ps begun;
        each = rows_sorted (row_of p) ps begun;
        list = λ t c. let all = rows_list t c (row_of p) ps begun in (
          λ s. ⊎_elim (λ l. inl ((pair_is t c p).1 (l.0, ⊎_elim (λ e. e) (λ k. absurd k) l.1))) (λ k. inr k) (all.0 s),
          λ i. all.1 (⊎_elim (λ e. let parts = (pair_is t c p).0 e in inl (parts.0, inl parts.1)) (λ k. inr k) i),
        );
      }

  pub gathered : (found ps : List Pair) → All (IsPairOf table) ps → AreInOrder table found ps → IsGathered table found (rows_of ps)
  gathered found ps valid o =
      let all : AreRows ps (rows_of ps) = are_rows ps (each_from (IsPairOf table) ps valid) (ascends_from (pair_cmp table) ps o.ordered) in
      record {
        ordered = pairs_from (λ (r : TupleRow) (s : TupleRow). tuple_cmp table r.tuple s.tuple) (rows_of ps) all.ascend;
        tuples = λ t. (
          λ k. let (r, i, e) = some_is (λ (r : TupleRow). r.tuple ≡ t) (rows_of ps) (tuple_of_one (rows_of ps) t (is_in t (map (λ (r : TupleRow). r.tuple) (rows_of ps)) k)) in
              let (c, there) = (each_in IsRow (rows_of ps) r all.each i).1 in
              let in_ps = (all.list t c).0 (some_from (Lists t c) (rows_of ps) r i (e, there)) in
              contains_from t (map (λ (p : Pair). p.tuple) found) (in_map found (record { tuple = t; condition = c }) (is_in (record { tuple = t; condition = c }) found ((o.members (record { tuple = t; condition = c })).0 (contains_from (record { tuple = t; condition = c }) ps in_ps)))),
          λ k. let (p, i, e) = from_map found t (is_in t (map (λ (p : Pair). p.tuple) found) k) in
              let in_ps = is_in p ps ((o.members p).1 (contains_from p found i)) in
              let (r, j, l) = some_is (Lists p.tuple p.condition) (rows_of ps) ((all.list p.tuple p.condition).1 in_ps) in
              contains_from t (map (λ (r : TupleRow). r.tuple) (rows_of ps)) (one_of_tuple (rows_of ps) t (some_from (λ (r : TupleRow). r.tuple ≡ t) (rows_of ps) r j (l.0 ∙ e))),
        );
        sorted = all_from (λ (r : TupleRow). AllPairs (λ c d. condition_cmp c d ≡ Less) r.conditions) (rows_of ps)
            (each_both IsRow IsRow (λ (r : TupleRow). AllPairs (λ c d. condition_cmp c d ≡ Less) r.conditions) (λ r h k. pairs_from condition_cmp r.conditions h.0) (rows_of ps) all.each all.each);
        conditions = λ r here c. (
          λ k. (o.members (record { tuple = r.tuple; condition = c })).0 (contains_from (record { tuple = r.tuple; condition = c }) ps
              ((all.list r.tuple c).0 (some_from (Lists r.tuple c) (rows_of ps) r (is_in r (rows_of ps) here) (refl, is_in c r.conditions k)))),
          λ k. let (s, j, l) = some_is (Lists r.tuple c) (rows_of ps) ((all.list r.tuple c).1 (is_in (record { tuple = r.tuple; condition = c }) ps ((o.members (record { tuple = r.tuple; condition = c })).1 k))) in
              let same : s ≡ r = one_row (rows_of ps) s r all.ascend j (is_in r (rows_of ps) here) l.0 in
              contains_from c r.conditions (subst (λ (x : TupleRow). IsIn c x.conditions) same l.1),
        );
      }
