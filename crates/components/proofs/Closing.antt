-- The uppermost segment becomes a component.
use Rattle.std.proofs.Common.{◌≡◌, ◌≢◌, ℕ, ◌+◌, ◌-◌, ◌<◌, ◌≤◌, List, length, take, drop, get_or, refl, sym, ap, ◌∙◌, subst, arith, ⊎_elim, inl, inr, length-drop}
use Rattle.std.specs.Prelude.{Contains, ◌⊎◌}
use Rattle.std.proofs.lemmas.Bool.{cases_eq, cases_lt}
use Rattle.std.proofs.lemmas.List.{get_or-drop, get_or-take, get_or_default, length-take-le}
use Rattle.components.specs.Graphs.{successors_of, HasEdge, Reaches}
use Rattle.components.specs.declared.search.Search.{Search}
use Rattle.components.specs.declared.search.Status.{Status}
use Rattle.components.specs.declared.search.Status.TheVariants.{New, Open, Closed}
use Rattle.components.specs.Searches.{at, front, status_of, AreClosed, AreLooked, AreNumbered, AreStarts, AreUnfinished, IsCut, IsLast, IsPath, IsSearch, IsSince, IsStack, IsStep, Leads}
use Rattle.components.proofs.Ends.{length_front, in_front, last_in, front_or_last, below_last, upto_last, front_ascending}
use Rattle.components.proofs.Statuses.{kinds, new_not_open, new_not_closed, open_not_closed, same_place, same_number}

module _ (old new : List Status) (stack : List ℕ) (top n : ℕ) (stacked : IsStack old stack) (numbered : AreNumbered old new (drop top stack) n) where
  -- a node of the segment
  in_segment : (v i : ℕ) → status_of old v ≡ Open i → top ≤ i → Contains (drop top stack) v
  in_segment v i e le =
      let lt : i < length stack = stacked.inside v i e in
      let k : ℕ = i - top in
      let within : k < length (drop top stack) = let q = length-drop top stack in omega (arith, q) in
      let place : top + k ≡ i = omega arith in
      (k, within, get_or-drop top stack k v ∙ (ap (λ j. get_or stack j v) place ∙ (get_or_default stack i v 0 lt ∙ stacked.node v i e)))

  segment_open : (v : ℕ) → Contains (drop top stack) v → (i : ℕ) × (status_of old v ≡ Open i) × (top ≤ i)
  segment_open v m =
      let lt : top + m.0 < length stack = let q = length-drop top stack in let l = m.1 in omega (arith, q, l) in
      let e : at stack (top + m.0) ≡ v = get_or_default stack (top + m.0) 0 v lt ∙ (sym (get_or-drop top stack m.0 v) ∙ m.2) in
      (top + m.0, ap (status_of old) (sym e) ∙ stacked.place (top + m.0) lt, omega arith)

  -- a node is as it was, and not of the segment, or is of the segment and closed
  abbrev Now : ℕ → Type 0
  Now v = ((status_of new v ≡ status_of old v) × ((i : ℕ) → status_of old v ≡ Open i → i < top)) ⊎ ((i : ℕ) × (status_of old v ≡ Open i) × (top ≤ i) × (status_of new v ≡ Closed n))

  now : (v : ℕ) → Now v
  now v = ⊎_elim
      (λ (e : status_of old v ≡ New). inl (
        numbered.others v (λ m. let o = segment_open v m in new_not_open (status_of old v) o.0 e o.1),
        λ i o. absurd (new_not_open (status_of old v) i e o),
      ))
      (λ rest. ⊎_elim
      (λ (o : (i : ℕ) × (status_of old v ≡ Open i)). ⊎_elim
      (λ (below : o.0 < top). inl (
        numbered.others v (λ m. let p = segment_open v m in let same : p.0 ≡ o.0 = same_place (status_of old v) p.0 o.0 p.1 o.1 in let le : top ≤ p.0 = p.2 in omega arith),
        λ i e. let same : i ≡ o.0 = same_place (status_of old v) i o.0 e o.1 in omega arith,
      ))
      (λ (above : top ≤ o.0). inr (o.0, o.1, above, numbered.listed v (in_segment v o.0 o.1 above)))
      (cases_lt o.0 top))
      (λ (c : (k : ℕ) × (status_of old v ≡ Closed k)). inl (
        numbered.others v (λ m. let o = segment_open v m in open_not_closed (status_of old v) o.0 c.0 o.1 c.1),
        λ i o. absurd (open_not_closed (status_of old v) i c.0 o c.1),
      ))
      rest)
      (kinds (status_of old v))

  stays_closed : (v k : ℕ) → status_of old v ≡ Closed k → status_of new v ≡ Closed k
  stays_closed v k e = ⊎_elim
      (λ a. a.0 ∙ e)
      (λ b. absurd (open_not_closed (status_of old v) b.0 k b.1 e))
      (now v)

  was_open : (v i : ℕ) → status_of new v ≡ Open i → (status_of old v ≡ Open i) × (i < top)
  was_open v i e = ⊎_elim
      (λ (a : (status_of new v ≡ status_of old v) × ((i : ℕ) → status_of old v ≡ Open i → i < top)). let was = sym a.0 ∙ e in (was, a.1 i was))
      (λ (b : (i : ℕ) × (status_of old v ≡ Open i) × (top ≤ i) × (status_of new v ≡ Closed n)). absurd (open_not_closed (status_of new v) i n e b.3))
      (now v)

  was_new : (v : ℕ) → status_of new v ≡ New → status_of old v ≡ New
  was_new v e = ⊎_elim
      (λ a. sym a.0 ∙ e)
      (λ b. absurd (new_not_closed (status_of new v) n e b.3))
      (now v)

  was_closed : (v k : ℕ) → status_of new v ≡ Closed k → (status_of old v ≡ Closed k) ⊎ ((i : ℕ) × (status_of old v ≡ Open i) × (top ≤ i) × (k ≡ n))
  was_closed v k e = ⊎_elim
      (λ a. inl (sym a.0 ∙ e))
      (λ b. inr (b.0, b.1, b.2, same_number (status_of new v) k n e b.3))
      (now v)

  module _ (inside : top < length stack) where
    size : length (take top stack) ≡ top
    size = length-take-le top stack (omega arith)

    at_rest : (i : ℕ) → i < top → at (take top stack) i ≡ at stack i
    at_rest i lt = get_or-take top stack i 0 lt

    below : (i : ℕ) → i < length (take top stack) → i < top
    below i lt = let q = size in omega (arith, q, lt)

    cut_stack : IsStack new (take top stack)
    cut_stack = record {
      place = λ i l.
          let lt = below i l in
          let e = stacked.place i (omega (arith, lt)) in
          ap (status_of new) (at_rest i lt) ∙ ⊎_elim
          (λ (a : (status_of new (at stack i) ≡ status_of old (at stack i)) × ((j : ℕ) → status_of old (at stack i) ≡ Open j → j < top)). a.0 ∙ e)
          (λ (b : (j : ℕ) × (status_of old (at stack i) ≡ Open j) × (top ≤ j) × (status_of new (at stack i) ≡ Closed n)). let same = same_place (status_of old (at stack i)) i b.0 e b.1 in let le = b.2 in absurd (omega (arith, same, le, lt)))
          (now (at stack i));
      inside = λ v i e. let q = size in let lt = (was_open v i e).1 in omega (arith, q, lt);
      node = λ v i e. let was = was_open v i e in at_rest i was.1 ∙ stacked.node v i was.0;
    }

    module _ (g : List (List ℕ)) (starts : List ℕ) (is_last : IsLast starts top) (are : AreStarts stack starts) where
      cut_path : IsPath g stack starts → IsPath g (take top stack) (front starts)
      cut_path h = record {
        up = λ i j le l.
            let lt = below j l in
            let lt_i : i < top = omega (arith, lt, le) in
            subst (λ a. Reaches g a (at (take top stack) j)) (sym (at_rest i lt_i)) (subst (Reaches g (at stack i)) (sym (at_rest j lt)) (h.up i j le (omega (arith, lt))));
        down = λ i j le l since.
            let lt = below j l in
            let lt_i : i < top = omega (arith, lt, le) in
            subst (λ a. Reaches g a (at (take top stack) i)) (sym (at_rest j lt)) (subst (Reaches g (at stack j)) (sym (at_rest i lt_i)) (h.down i j le (omega (arith, lt)) (λ t m t_le. ⊎_elim
            (λ (f : Contains (front starts) t). since t f t_le)
            (λ (e : top ≡ t). absurd (omega (arith, lt)))
            (front_or_last starts top is_last t m))));
      }

      cut_leads : (i x : ℕ) → Leads old starts i x → Leads new (front starts) i x
      cut_leads i x h = ⊎_elim
          (λ (c : (k : ℕ) × (status_of old x ≡ Closed k)). inl (c.0, stays_closed x c.0 c.1))
          (λ (o : (j : ℕ) × (status_of old x ≡ Open j) × IsSince starts i j). ⊎_elim
          (λ (a : (status_of new x ≡ status_of old x) × ((j : ℕ) → status_of old x ≡ Open j → j < top)). inr (o.0, a.0 ∙ o.1, λ t m t_le. o.2 t (in_front starts top is_last t m) t_le))
          (λ (b : (j : ℕ) × (status_of old x ≡ Open j) × (top ≤ j) × (status_of new x ≡ Closed n)). inl (n, b.3))
          (now x))
          h

      cut_looked : (left : List ℕ) → AreLooked g old left stack starts → AreLooked g new left (take top stack) (front starts)
      cut_looked left h = record {
        looked = λ i k l from to.
            let lt = below i l in
            let e = at_rest i lt in
            subst (λ a. Leads new (front starts) i (at (successors_of g a) k)) (sym e)
            (cut_leads i (at (successors_of g (at stack i)) k)
            (h.looked i k (omega (arith, lt)) (subst (λ a. at left a ≤ k) e from) (subst (λ a. k < length (successors_of g a)) e to)));
        fresh = λ v e. h.fresh v (was_new v e);
        fits = h.fits;
      }

      cut_starts : AreStarts (take top stack) (front starts)
      cut_starts = record {
        ascending = front_ascending starts top is_last are.ascending;
        inside = λ t m. let lt = below_last starts top is_last are.ascending t m in let q = size in omega (arith, lt, q);
        first = λ pos. let lt = below 0 pos in ⊎_elim
            (λ (f : Contains (front starts) 0). f)
            (λ (e : top ≡ 0). absurd (omega (arith, lt)))
            (front_or_last starts top is_last 0 (are.first (omega (arith, lt))));
      }

      module _ (left unfinished : List ℕ) (done : (i : ℕ) → Contains unfinished i → i < top) where
        cut_unfinished : AreUnfinished left stack unfinished → AreUnfinished left (take top stack) unfinished
        cut_unfinished h = record {
          ascending = h.ascending;
          inside = λ i m. let lt = done i m in let q = size in omega (arith, lt, q);
          covers = λ i l pos. let lt = below i l in h.covers i (omega (arith, lt)) (subst (λ a. 0 < at left a) (at_rest i lt) pos);
        }

        -- the edges of a node of the segment
        segment_edge : (closed : ℕ) → n ≡ closed + 1 → AreClosed g old closed → AreLooked g old left stack starts → AreUnfinished left stack unfinished → (v w i : ℕ) → status_of old v ≡ Open i → top ≤ i → HasEdge g v w → (m : ℕ) × (status_of new w ≡ Closed m) × (m ≤ n)
        segment_edge closed next h looked un v w i e le edge =
            let lt : i < length stack = stacked.inside v i e in
            let is : at stack i ≡ v = stacked.node v i e in
            let none : at left (at stack i) ≤ 0 = ⊎_elim
            (λ (some : 0 < at left (at stack i)). let bad = done i (un.covers i lt some) in absurd (omega (arith, bad, le)))
            (λ (zero : at left (at stack i) ≤ 0). zero)
            (cases_lt 0 (at left (at stack i))) in
            let k : ℕ = edge.0 in
            let in_list : k < length (successors_of g (at stack i)) = subst (λ a. k < length (successors_of g a)) (sym is) edge.1 in
            let leads = looked.looked i k lt (omega (arith, none)) in_list in
            let to_w : at (successors_of g (at stack i)) k ≡ w = ap (λ a. at (successors_of g a) k) is ∙ (get_or_default (successors_of g v) k 0 w edge.1 ∙ edge.2) in
            ⊎_elim
            (λ (c : (m : ℕ) × (status_of old w ≡ Closed m)). let high = h.high w c.0 c.1 in (c.0, stays_closed w c.0 c.1, omega (arith, high, next)))
            (λ (o : (j : ℕ) × (status_of old w ≡ Open j) × IsSince starts i j).
            let above = o.2 top (last_in starts top is_last) le in
            (n, numbered.listed w (in_segment w o.0 o.1 above), omega arith))
            (subst (Leads old starts i) to_w leads)

        segment_same : IsPath g stack starts → (v w i j : ℕ) → status_of old v ≡ Open i → status_of old w ≡ Open j → top ≤ i → top ≤ j → Reaches g v w
        segment_same h v w i j e f above_i above_j =
            let lt_i : i < length stack = stacked.inside v i e in
            let lt_j : j < length stack = stacked.inside w j f in
            subst (λ a. Reaches g a w) (stacked.node v i e) (subst (Reaches g (at stack i)) (stacked.node w j f)
            (⊎_elim
            (λ (lt : i < j). h.up i j (omega arith) lt_j)
            (λ (le : j ≤ i). h.down j i le lt_i (λ t m t_le. let q = upto_last starts top is_last are.ascending t m in omega (arith, q)))
            (cases_lt i j)))

        cut_closed : (closed : ℕ) → n ≡ closed + 1 → AreClosed g old closed → IsPath g stack starts → AreLooked g old left stack starts → AreUnfinished left stack unfinished → AreClosed g new n
        cut_closed closed next h path looked un = record {
          edges = λ v w k e edge. ⊎_elim
              (λ (c : status_of old v ≡ Closed k). let r = h.edges v w k c edge in (r.0, stays_closed w r.0 r.1, r.2))
              (λ (o : (i : ℕ) × (status_of old v ≡ Open i) × (top ≤ i) × (k ≡ n)).
              let r = segment_edge closed next h looked un v w o.0 o.1 o.2 edge in
              (r.0, r.1, subst (λ m. r.0 ≤ m) (sym o.3) r.2))
              (was_closed v k e);
          same = λ v w k e f. ⊎_elim
              (λ (c : status_of old v ≡ Closed k). ⊎_elim
              (λ (d : status_of old w ≡ Closed k). h.same v w k c d)
              (λ (p : (j : ℕ) × (status_of old w ≡ Open j) × (top ≤ j) × (k ≡ n)). let high = h.high v k c in let is = p.3 in absurd (omega (arith, high, is, next)))
              (was_closed w k f))
              (λ (o : (i : ℕ) × (status_of old v ≡ Open i) × (top ≤ i) × (k ≡ n)). ⊎_elim
              (λ (d : status_of old w ≡ Closed k). let high = h.high w k d in let is = o.3 in absurd (omega (arith, high, is, next)))
              (λ (p : (j : ℕ) × (status_of old w ≡ Open j) × (top ≤ j) × (k ≡ n)). segment_same path v w o.0 p.0 o.1 p.1 o.2 p.2)
              (was_closed w k f))
              (was_closed v k e);
          low = λ v k e. ⊎_elim
              (λ (c : status_of old v ≡ Closed k). h.low v k c)
              (λ (o : (i : ℕ) × (status_of old v ≡ Open i) × (top ≤ i) × (k ≡ n)). let is = o.3 in omega (arith, is, next))
              (was_closed v k e);
          high = λ v k e. ⊎_elim
              (λ (c : status_of old v ≡ Closed k). let high = h.high v k c in omega (arith, high, next))
              (λ (o : (i : ℕ) × (status_of old v ≡ Open i) × (top ≤ i) × (k ≡ n)). let is = o.3 in omega (arith, is))
              (was_closed v k e);
          used = λ k pos le. ⊎_elim
              (λ (is : k ≡ n).
              let v : ℕ = at stack top in
              (v, numbered.listed v (in_segment v top (stacked.place top inside) (omega arith)) ∙ ap Closed (sym is)))
              (λ (ne : k ≡ n → ⊥).
              let apart : k ≢ n = ne in
              let r = h.used k pos (omega (arith, next)) in
              (r.0, stays_closed r.0 k r.1))
              (cases_eq k n);
        }

pub cut_step : (g : List (List ℕ)) (s t : Search) (top : ℕ) → IsSearch g s → IsLast s.starts top → ((i : ℕ) → Contains s.unfinished i → i < top) → IsCut s t top → IsStep g s t
cut_step g s t top search is_last done cut = subst (IsStep g s) (sym cut.rest) (record {
  search = record {
    statuses_size = cut.statuses.size ∙ search.statuses_size;
    left_size = search.left_size;
    stack = cut_stack s.statuses t.statuses s.stack top (s.closed + 1) search.stack cut.statuses inside;
    path = cut_path s.statuses t.statuses s.stack top (s.closed + 1) search.stack cut.statuses inside g s.starts is_last search.starts search.path;
    looked = cut_looked s.statuses t.statuses s.stack top (s.closed + 1) search.stack cut.statuses inside g s.starts is_last search.starts s.left search.looked;
    starts = cut_starts s.statuses t.statuses s.stack top (s.closed + 1) search.stack cut.statuses inside g s.starts is_last search.starts;
    unfinished = cut_unfinished s.statuses t.statuses s.stack top (s.closed + 1) search.stack cut.statuses inside g s.starts is_last search.starts s.left s.unfinished done search.unfinished;
    closed = cut_closed s.statuses t.statuses s.stack top (s.closed + 1) search.stack cut.statuses inside g s.starts is_last search.starts s.left s.unfinished done s.closed refl search.closed search.path search.looked search.unfinished;
    count = let e = length_front s.starts top is_last in let f = cut.statuses.fresh in let c = search.count in omega (arith, e, f, c);
  };
  smaller = let e = length_front s.starts top is_last in let f = cut.statuses.fresh in omega (arith, e, f);
  kept = was_new s.statuses t.statuses s.stack top (s.closed + 1) search.stack cut.statuses;
})
  where
    inside : top < length s.stack
    inside = search.starts.inside top (last_in s.starts top is_last)
