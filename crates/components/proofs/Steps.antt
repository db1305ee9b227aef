-- The steps of the search that close no component.
use Rattle.std.proofs.Common.{◌≡◌, ◌≢◌, ℕ, ◌+◌, ◌-◌, ◌<◌, ◌≤◌, List, [], ◌∷◌, ◌++◌, length, get_or, refl, sym, ap, ◌∙◌, subst, arith, ⊎_elim, inl, inr, set, get_or-set_other, get_or-set_same, length-set}
use Rattle.std.specs.Prelude.{Contains}
use Rattle.std.proofs.lemmas.Bool.{cases_eq, cases_lt}
use Rattle.std.proofs.lemmas.List.{get_or_append_left, get_or_push, length_push}
use Rattle.std.proofs.lemmas.List.Sums.{sum_by-set}
use Rattle.std.proofs.lemmas.List.Elements.{Contains-append_left, Contains-push, Contains-push_cases, Contains-get_or}
use Rattle.std.proofs.lemmas.List.Quantifiers.{all_pairs_push}
use Rattle.components.specs.Graphs.{successors_of, HasEdge, Reaches}
use Rattle.components.specs.Graphs.Reaches.{here}
use Rattle.components.specs.declared.search.Search.{Search}
use Rattle.components.specs.declared.search.Status.{Status}
use Rattle.components.specs.declared.search.Status.TheVariants.{New, Open, Closed}
use Rattle.components.specs.Searches.{at, front, status_of, fresh_weight, AreClosed, AreLooked, AreStarts, AreUnfinished, CanFollow, IsLast, IsPath, IsSearch, IsSince, IsStack, IsStep, Leads, opened, passed, joined, finished}
use Rattle.components.proofs.Walks.{reaches_then, reaches_edge}
use Rattle.components.proofs.Ends.{length_front, in_front, front_or_last, upto_last, front_ascending}
use Rattle.components.proofs.Statuses.{new_not_open, new_not_closed, open_not_closed, same_place, stacked_in, closed_same}

-- ---- an edge that was looked at

module _ (g : List (List ℕ)) (statuses : List Status) (left stack starts : List ℕ) (place v : ℕ) (stacked : IsStack statuses stack) (lt : place < length stack) (is : v ≡ at stack place) (in_left : v < length left) (some : 0 < at left v) where
  less : (u : ℕ) → at (set left v (at left v - 1)) u ≤ at left u
  less u = ⊎_elim
      (λ (e : u ≡ v). subst (λ x. at (set left v (at left v - 1)) x ≤ at left x) (sym e) (let q = get_or-set_same left v (at left v - 1) 0 in_left in omega (arith, q)))
      (λ (ne : u ≡ v → ⊥). let q = get_or-set_other left v u (at left v - 1) 0 ne in omega (arith, q))
      (cases_eq u v)

  open_here : status_of statuses v ≡ Open place
  open_here = ap (status_of statuses) is ∙ stacked.place place lt

  pass_looked : AreLooked g statuses left stack starts → Leads statuses starts place (at (successors_of g v) (at left v - 1)) → AreLooked g statuses (set left v (at left v - 1)) stack starts
  pass_looked h leads = record {
    looked = λ i k l from to. ⊎_elim
        (λ (e : at stack i ≡ v).
        let same : i ≡ place = same_place (status_of statuses v) i place (ap (status_of statuses) (sym e) ∙ stacked.place i l) open_here in
        let q : at (set left v (at left v - 1)) (at stack i) ≡ at left v - 1 = ap (at (set left v (at left v - 1))) e ∙ get_or-set_same left v (at left v - 1) 0 in_left in
        ⊎_elim
        (λ (last : k ≡ at left v - 1).
        subst (λ n. Leads statuses starts n (at (successors_of g (at stack i)) k)) (sym same)
        (subst (λ u. Leads statuses starts place (at (successors_of g u) k)) (sym e)
        (subst (λ n. Leads statuses starts place (at (successors_of g v) n)) (sym last) leads)))
        (λ (ne : k ≡ at left v - 1 → ⊥).
        let apart : k ≢ at left v - 1 = ne in
        let before : at left (at stack i) ≤ k = subst (λ u. at left u ≤ k) (sym e) (omega (arith, q, from)) in
        h.looked i k l before to)
        (cases_eq k (at left v - 1)))
        (λ (ne : at stack i ≡ v → ⊥).
        let q = get_or-set_other left v (at stack i) (at left v - 1) 0 ne in
        h.looked i k l (omega (arith, q, from)) to)
        (cases_eq (at stack i) v);
    fresh = λ u e.
        let ne : u ≢ v = λ same. new_not_open (status_of statuses u) place e (ap (status_of statuses) same ∙ open_here) in
        get_or-set_other left v u (at left v - 1) 0 ne ∙ h.fresh u e;
    fits = λ u. let a = less u in let b = h.fits u in omega (arith, a, b);
  }

  pass_unfinished : (unfinished : List ℕ) → AreUnfinished left stack unfinished → AreUnfinished (set left v (at left v - 1)) stack unfinished
  pass_unfinished unfinished h = record {
    ascending = h.ascending;
    inside = h.inside;
    covers = λ i l pos. let a = less (at stack i) in h.covers i l (omega (arith, a, pos));
  }

pub pass_step : (g : List (List ℕ)) (s : Search) (top v w : ℕ) → IsSearch g s → (can : CanFollow g s top v w) → Leads s.statuses s.starts can.place w → IsStep g s (passed s v)
pass_step g s top v w search can leads =
    let in_left : v < length s.left = let a = stacked_in s.statuses s.stack can.place search.stack can.inside in omega (arith, a, can.node, search.statuses_size, search.left_size) in
    let some : 0 < at s.left v = can.next.some in
    record {
      search = record {
        statuses_size = search.statuses_size;
        left_size = length-set s.left v (at s.left v - 1) ∙ search.left_size;
        stack = search.stack;
        path = search.path;
        looked = pass_looked g s.statuses s.left s.stack s.starts can.place v search.stack can.inside can.node in_left some search.looked (subst (Leads s.statuses s.starts can.place) can.next.is leads);
        starts = search.starts;
        unfinished = pass_unfinished g s.statuses s.left s.stack s.starts can.place v search.stack can.inside can.node in_left some s.unfinished search.unfinished;
        closed = search.closed;
        count = search.count;
      };
      smaller = let e = sum_by-set (λ (n : ℕ). n) s.left v (at s.left v - 1) 0 in_left in omega (arith, e, some);
      kept = λ u e. e;
    }

-- ---- a node that has no successor left

pub finish_step : (g : List (List ℕ)) (s : Search) (place : ℕ) → IsSearch g s → IsLast s.unfinished place → at s.left (at s.stack place) ≡ 0 → IsStep g s (finished s)
finish_step g s place search is_last none = record {
  search = record {
    statuses_size = search.statuses_size;
    left_size = search.left_size;
    stack = search.stack;
    path = search.path;
    looked = search.looked;
    starts = search.starts;
    unfinished = record {
      ascending = front_ascending s.unfinished place is_last search.unfinished.ascending;
      inside = λ i m. search.unfinished.inside i (in_front s.unfinished place is_last i m);
      covers = λ i lt pos. ⊎_elim
          (λ (m : Contains (front s.unfinished) i). m)
          (λ (e : place ≡ i). let q = ap (λ n. at s.left (at s.stack n)) e in absurd (omega (arith, q, pos, none)))
          (front_or_last s.unfinished place is_last i (search.unfinished.covers i lt pos));
    };
    closed = search.closed;
    count = search.count;
  };
  smaller = let e = length_front s.unfinished place is_last in omega (arith, e);
  kept = λ u e. e;
}

-- ---- two segments that become one

module _ (g : List (List ℕ)) (statuses : List Status) (left stack starts : List ℕ) (top place p w : ℕ) (is_last : IsLast starts top) (stacked : IsStack statuses stack) (are : AreStarts stack starts) (lt : place < length stack) (upper : top ≤ place) (edge : HasEdge g (at stack place) w) (is_open : status_of statuses w ≡ Open p) (lower : p < top) where
  join_path : IsPath g stack starts → IsPath g stack (front starts)
  join_path h = record {
    up = h.up;
    down = λ i j le l since. ⊎_elim
        (λ (below : j < top). h.down i j le l (λ t m t_le. ⊎_elim
        (λ (f : Contains (front starts) t). since t f t_le)
        (λ (e : top ≡ t). absurd (omega arith))
        (front_or_last starts top is_last t m)))
        (λ (above : top ≤ j). ⊎_elim
        (λ (crosses : i < top). across i j l above crosses since)
        (λ (within : top ≤ i). h.down i j le l (λ t m t_le. ⊎_elim
        (λ (f : Contains (front starts) t). since t f t_le)
        (λ (e : top ≡ t). omega arith)
        (front_or_last starts top is_last t m)))
        (cases_lt i top))
        (cases_lt j top);
  }
    where
      across : (i j : ℕ) → j < length stack → top ≤ j → i < top → IsSince (front starts) j i → Reaches g (at stack j) (at stack i)
      across i j l above crosses since =
          let end : ℕ = length stack - 1 in
          let to_end = h.up j end (omega arith) (omega arith) in
          let to_place = h.down place end (omega arith) (omega arith) (λ t m t_le. let q : t ≤ top = upto_last starts top is_last are.ascending t m in omega arith) in
          let in_stack : p < length stack = stacked.inside w p is_open in
          let to_p : Reaches g (at stack place) (at stack p) = subst (Reaches g (at stack place)) (sym (stacked.node w p is_open)) (reaches_edge g (at stack place) w edge) in
          let to_i : Reaches g (at stack p) (at stack i) = ⊎_elim
          (λ (below : i < p). h.down i p (omega arith) in_stack (λ t m t_le. ⊎_elim
          (λ (f : Contains (front starts) t). since t f (omega arith))
          (λ (e : top ≡ t). absurd (omega arith))
          (front_or_last starts top is_last t m)))
          (λ (above_p : p ≤ i). h.up p i above_p (omega arith))
          (cases_lt i p) in
          reaches_then g (at stack j) (at stack end) (at stack i) to_end
          (reaches_then g (at stack end) (at stack place) (at stack i) to_place
          (reaches_then g (at stack place) (at stack p) (at stack i) to_p to_i))

  join_looked : AreLooked g statuses left stack starts → AreLooked g statuses left stack (front starts)
  join_looked h = record {
    looked = λ i k l from to. ⊎_elim
        (λ c. inl c)
        (λ o. inr (o.0, o.1, λ t m t_le. o.2 t (in_front starts top is_last t m) t_le))
        (h.looked i k l from to);
    fresh = h.fresh;
    fits = h.fits;
  }

  join_starts : AreStarts stack (front starts)
  join_starts = record {
    ascending = front_ascending starts top is_last are.ascending;
    inside = λ t m. are.inside t (in_front starts top is_last t m);
    first = λ pos. ⊎_elim
        (λ (f : Contains (front starts) 0). f)
        (λ (e : top ≡ 0). absurd (omega arith))
        (front_or_last starts top is_last 0 (are.first pos));
  }

pub next_edge : (g : List (List ℕ)) (s : Search) (top v w : ℕ) → IsSearch g s → CanFollow g s top v w → HasEdge g v w
next_edge g s top v w search can =
    let fits = search.looked.fits v in
    let some = can.next.some in
    subst (Contains (successors_of g v)) (sym can.next.is) (Contains-get_or (successors_of g v) (at s.left v - 1) 0 (omega (arith, fits, some)))

pub join_step : (g : List (List ℕ)) (s : Search) (top v w p : ℕ) → IsSearch g s → IsLast s.starts top → CanFollow g s top v w → status_of s.statuses w ≡ Open p → p < top → IsStep g s (joined s)
join_step g s top v w p search is_last can is_open lower =
    let edge : HasEdge g (at s.stack can.place) w = subst (λ u. HasEdge g u w) can.node (next_edge g s top v w search can) in
    record {
      search = record {
        statuses_size = search.statuses_size;
        left_size = search.left_size;
        stack = search.stack;
        path = join_path g s.statuses s.left s.stack s.starts top can.place p w is_last search.stack search.starts can.inside can.upper edge is_open lower search.path;
        looked = join_looked g s.statuses s.left s.stack s.starts top can.place p w is_last search.stack search.starts can.inside can.upper edge is_open lower search.looked;
        starts = join_starts g s.statuses s.left s.stack s.starts top can.place p w is_last search.stack search.starts can.inside can.upper edge is_open lower;
        unfinished = search.unfinished;
        closed = search.closed;
        count = let e = length_front s.starts top is_last in omega (arith, e, search.count);
      };
      smaller = let e = length_front s.starts top is_last in omega (arith, e);
      kept = λ u e. e;
    }

-- ---- a new node on the stack

module _ (g : List (List ℕ)) (statuses : List Status) (stack : List ℕ) (w : ℕ) (in_statuses : w < length statuses) (is_new : status_of statuses w ≡ New) (stacked : IsStack statuses stack) where
  at_end : at (stack ++ w ∷ []) (length stack) ≡ w
  at_end = get_or_push stack w 0 (length stack) refl

  at_before : (i : ℕ) → i < length stack → at (stack ++ w ∷ []) i ≡ at stack i
  at_before i lt = get_or_append_left stack (w ∷ []) 0 i lt

  now_open : status_of (set statuses w (Open (length stack))) w ≡ Open (length stack)
  now_open = get_or-set_same statuses w (Open (length stack)) New in_statuses

  other : (v : ℕ) → v ≢ w → status_of (set statuses w (Open (length stack))) v ≡ status_of statuses v
  other v ne = get_or-set_other statuses w v (Open (length stack)) New ne

  open_other : (v i : ℕ) → status_of statuses v ≡ Open i → v ≢ w
  open_other v i e same = new_not_open (status_of statuses v) i (ap (status_of statuses) same ∙ is_new) e

  closed_other : (v k : ℕ) → status_of statuses v ≡ Closed k → v ≢ w
  closed_other v k e same = new_not_closed (status_of statuses v) k (ap (status_of statuses) same ∙ is_new) e

  push_stack : IsStack (set statuses w (Open (length stack))) (stack ++ w ∷ [])
  push_stack = record {
    place = λ i lt. ⊎_elim
        (λ (old : i < length stack).
        let q = stacked.place i old in
        ap (status_of (set statuses w (Open (length stack)))) (at_before i old) ∙ (other (at stack i) (open_other (at stack i) i q) ∙ q))
        (λ (past : length stack ≤ i).
        let e : i ≡ length stack = let n = length_push stack w in omega (arith, n, lt) in
        ap (λ n. status_of (set statuses w (Open (length stack))) (at (stack ++ w ∷ []) n)) e ∙ (ap (status_of (set statuses w (Open (length stack)))) at_end ∙ (now_open ∙ ap Open (sym e))))
        (cases_lt i (length stack));
    inside = λ v i e. let n = length_push stack w in ⊎_elim
        (λ (is : v ≡ w). let same : i ≡ length stack = same_place (status_of (set statuses w (Open (length stack))) v) i (length stack) e (ap (status_of (set statuses w (Open (length stack)))) is ∙ now_open) in omega (arith, n))
        (λ (ne : v ≡ w → ⊥). let lt = stacked.inside v i (sym (other v ne) ∙ e) in omega (arith, n, lt))
        (cases_eq v w);
    node = λ v i e. ⊎_elim
        (λ (is : v ≡ w). let same : i ≡ length stack = same_place (status_of (set statuses w (Open (length stack))) v) i (length stack) e (ap (status_of (set statuses w (Open (length stack)))) is ∙ now_open) in ap (at (stack ++ w ∷ [])) same ∙ (at_end ∙ sym is))
        (λ (ne : v ≡ w → ⊥). let was = sym (other v ne) ∙ e in at_before i (stacked.inside v i was) ∙ stacked.node v i was)
        (cases_eq v w);
  }

  push_closed : (n : ℕ) → AreClosed g statuses n → AreClosed g (set statuses w (Open (length stack))) n
  push_closed n h = closed_same g statuses (set statuses w (Open (length stack))) n
      (λ v k e. other v (closed_other v k e) ∙ e)
      (λ v k e. ⊎_elim
      (λ (is : v ≡ w). absurd (open_not_closed (status_of (set statuses w (Open (length stack))) v) (length stack) k (ap (status_of (set statuses w (Open (length stack)))) is ∙ now_open) e))
      (λ (ne : v ≡ w → ⊥). sym (other v ne) ∙ e)
      (cases_eq v w))
      h

  push_kept : (v : ℕ) → status_of (set statuses w (Open (length stack))) v ≡ New → status_of statuses v ≡ New
  push_kept v e = ⊎_elim
      (λ (is : v ≡ w). ap (status_of statuses) is ∙ is_new)
      (λ (ne : v ≡ w → ⊥). sym (other v ne) ∙ e)
      (cases_eq v w)

  module _ (starts : List ℕ) (are : AreStarts stack starts) where
    push_starts : AreStarts (stack ++ w ∷ []) (starts ++ length stack ∷ [])
    push_starts = record {
      ascending = all_pairs_push (λ (s t : ℕ). s < t) starts (length stack) are.ascending (λ k d lt. are.inside (get_or starts k d) (Contains-get_or starts k d lt));
      inside = λ t m. let n = length_push stack w in ⊎_elim
          (λ (old : Contains starts t). let lt = are.inside t old in omega (arith, n, lt))
          (λ (e : length stack ≡ t). omega (arith, n))
          (Contains-push_cases starts (length stack) t m);
      first = λ pos. ⊎_elim
          (λ (some : 0 < length stack). Contains-append_left starts (length stack ∷ []) 0 (are.first some))
          (λ (none : length stack ≤ 0). let e : length stack ≡ 0 = omega arith in subst (Contains (starts ++ length stack ∷ [])) e (Contains-push starts (length stack)))
          (cases_lt 0 (length stack));
    }

    push_path : ((i : ℕ) → i < length stack → Reaches g (at stack i) w) → IsPath g stack starts → IsPath g (stack ++ w ∷ []) (starts ++ length stack ∷ [])
    push_path reach h = record {
      up = λ i j le lt. ⊎_elim
          (λ (old : j < length stack).
          let i_old : i < length stack = omega arith in
          subst (λ a. Reaches g a (at (stack ++ w ∷ []) j)) (sym (at_before i i_old)) (subst (Reaches g (at stack i)) (sym (at_before j old)) (h.up i j le old)))
          (λ (past : length stack ≤ j).
          let e : j ≡ length stack = let n = length_push stack w in omega (arith, n, lt) in
          let at_j : at (stack ++ w ∷ []) j ≡ w = ap (at (stack ++ w ∷ [])) e ∙ at_end in
          subst (Reaches g (at (stack ++ w ∷ []) i)) (sym at_j)
          (⊎_elim
          (λ (i_old : i < length stack). subst (λ a. Reaches g a w) (sym (at_before i i_old)) (reach i i_old))
          (λ (i_past : length stack ≤ i). let f : i ≡ length stack = omega arith in subst (λ a. Reaches g a w) (sym (ap (at (stack ++ w ∷ [])) f ∙ at_end)) here)
          (cases_lt i (length stack))))
          (cases_lt j (length stack));
      down = λ i j le lt since. ⊎_elim
          (λ (old : j < length stack).
          let i_old : i < length stack = omega arith in
          subst (λ a. Reaches g a (at (stack ++ w ∷ []) i)) (sym (at_before j old)) (subst (Reaches g (at stack j)) (sym (at_before i i_old))
          (h.down i j le old (λ t m t_le. since t (Contains-append_left starts (length stack ∷ []) t m) t_le))))
          (λ (past : length stack ≤ j).
          let q = since (length stack) (Contains-push starts (length stack)) past in
          let e : j ≡ i = let n = length_push stack w in omega (arith, n, lt, q) in
          subst (λ k. Reaches g (at (stack ++ w ∷ []) k) (at (stack ++ w ∷ []) i)) (sym e) here)
          (cases_lt j (length stack));
    }

    push_leads : (i x : ℕ) → i < length stack → Leads statuses starts i x → Leads (set statuses w (Open (length stack))) (starts ++ length stack ∷ []) i x
    push_leads i x lt h = ⊎_elim
        (λ (c : (k : ℕ) × (status_of statuses x ≡ Closed k)). inl (c.0, other x (closed_other x c.0 c.1) ∙ c.1))
        (λ (o : (j : ℕ) × (status_of statuses x ≡ Open j) × IsSince starts i j). inr (
          o.0,
          other x (open_other x o.0 o.1) ∙ o.1,
          λ t m t_le. ⊎_elim
              (λ (old : Contains starts t). o.2 t old t_le)
              (λ (e : length stack ≡ t). absurd (omega arith))
              (Contains-push_cases starts (length stack) t m),
        ))
        h

    push_looked : (left : List ℕ) → AreLooked g statuses left stack starts → AreLooked g (set statuses w (Open (length stack))) left (stack ++ w ∷ []) (starts ++ length stack ∷ [])
    push_looked left h = record {
      looked = λ i k lt from to. ⊎_elim
          (λ (old : i < length stack).
          let e = at_before i old in
          subst (λ a. Leads (set statuses w (Open (length stack))) (starts ++ length stack ∷ []) i (at (successors_of g a) k)) (sym e)
          (push_leads i (at (successors_of g (at stack i)) k) old
          (h.looked i k old (subst (λ a. at left a ≤ k) e from) (subst (λ a. k < length (successors_of g a)) e to))))
          (λ (past : length stack ≤ i).
          let f : i ≡ length stack = let n = length_push stack w in omega (arith, n, lt) in
          let e : at (stack ++ w ∷ []) i ≡ w = ap (at (stack ++ w ∷ [])) f ∙ at_end in
          let a = subst (λ (u : ℕ). at left u ≤ k) e from in
          let b = subst (λ (u : ℕ). k < length (successors_of g u)) e to in
          let all = h.fresh w is_new in
          absurd (omega (arith, a, b, all)))
          (cases_lt i (length stack));
      fresh = λ v e. h.fresh v (push_kept v e);
      fits = h.fits;
    }

  push_unfinished : (left unfinished : List ℕ) → AreUnfinished left stack unfinished → AreUnfinished left (stack ++ w ∷ []) (unfinished ++ length stack ∷ [])
  push_unfinished left unfinished h = record {
    ascending = all_pairs_push (λ (s t : ℕ). s < t) unfinished (length stack) h.ascending (λ k d lt. h.inside (get_or unfinished k d) (Contains-get_or unfinished k d lt));
    inside = λ t m. let n = length_push stack w in ⊎_elim
        (λ (old : Contains unfinished t). let lt = h.inside t old in omega (arith, n, lt))
        (λ (e : length stack ≡ t). omega (arith, n))
        (Contains-push_cases unfinished (length stack) t m);
    covers = λ i lt pos. ⊎_elim
        (λ (old : i < length stack). Contains-append_left unfinished (length stack ∷ []) i (h.covers i old (subst (λ a. 0 < at left a) (at_before i old) pos)))
        (λ (past : length stack ≤ i). let e : length stack ≡ i = let n = length_push stack w in omega (arith, n, lt) in subst (Contains (unfinished ++ length stack ∷ [])) e (Contains-push unfinished (length stack)))
        (cases_lt i (length stack));
  }

pub push_step : (g : List (List ℕ)) (s : Search) (w : ℕ) → IsSearch g s → w < length g → status_of s.statuses w ≡ New → ((i : ℕ) → i < length s.stack → Reaches g (at s.stack i) w) → IsStep g s (opened s w)
push_step g s w search is_node is_new reach =
    let within : w < length s.statuses = omega (arith, is_node, search.statuses_size) in
    let e = sum_by-set fresh_weight s.statuses w (Open (length s.stack)) New within in
    let three : fresh_weight (get_or s.statuses w New) ≡ 3 = ap fresh_weight is_new in
    let starts : length (s.starts ++ length s.stack ∷ []) ≡ length s.starts + 1 = length_push s.starts (length s.stack) in
    let unfinished : length (s.unfinished ++ length s.stack ∷ []) ≡ length s.unfinished + 1 = length_push s.unfinished (length s.stack) in
    record {
      search = record {
        statuses_size = length-set s.statuses w (Open (length s.stack)) ∙ search.statuses_size;
        left_size = search.left_size;
        stack = push_stack g s.statuses s.stack w within is_new search.stack;
        path = push_path g s.statuses s.stack w within is_new search.stack s.starts search.starts reach search.path;
        looked = push_looked g s.statuses s.stack w within is_new search.stack s.starts search.starts s.left search.looked;
        starts = push_starts g s.statuses s.stack w within is_new search.stack s.starts search.starts;
        unfinished = push_unfinished g s.statuses s.stack w within is_new search.stack s.left s.unfinished search.unfinished;
        closed = push_closed g s.statuses s.stack w within is_new search.stack s.closed search.closed;
        count = omega (arith, e, three, starts, search.count);
      };
      smaller = omega (arith, e, three, starts, unfinished);
      kept = push_kept g s.statuses s.stack w within is_new search.stack;
    }
