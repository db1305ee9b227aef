-- The numbers once each node is closed.
use Rattle.std.proofs.Common.{◌≡◌, ◌≢◌, ℕ, ◌<◌, ◌≤◌, List, [], length, map, sym, ap, ◌∙◌, subst, arith, ⊎_elim}
use Rattle.std.specs.Prelude.{Contains}
use Rattle.std.proofs.lemmas.Bool.{cases_eq}
use Rattle.std.proofs.lemmas.List.{get_or-map, length-map}
use Rattle.std.proofs.lemmas.List.Elements.{Contains-get_or}
use Rattle.components.specs.Graphs.{AreComponentNumbers, AreMutual, Reaches, number_of}
use Rattle.components.specs.declared.search.Search.{Search}
use Rattle.components.specs.declared.search.Status.TheVariants.{New, Open, Closed}
use Rattle.components.specs.Searches.{AllMet, IsSearch, number_in, status_of}
use Rattle.components.proofs.Statuses.{kinds, met_in, new_not_closed}
use Rattle.components.proofs.Walks.{along}

module _ (g : List (List ℕ)) (s : Search) (search : IsSearch g s) (empty : s.stack ≡ []) (met : AllMet (length g) s.statuses) where
  closed_at : (v : ℕ) → v < length g → (k : ℕ) × (status_of s.statuses v ≡ Closed k)
  closed_at v lt = ⊎_elim
      (λ (e : status_of s.statuses v ≡ New). absurd (met v lt e))
      (λ rest. ⊎_elim
      (λ (o : (i : ℕ) × (status_of s.statuses v ≡ Open i)). let inside = search.stack.inside v o.0 o.1 in let none = ap length empty in absurd (omega (arith, inside, none)))
      (λ (c : (k : ℕ) × (status_of s.statuses v ≡ Closed k)). c)
      rest)
      (kinds (status_of s.statuses v))

  closed_node : (v k : ℕ) → status_of s.statuses v ≡ Closed k → v < length g
  closed_node v k e = let lt = met_in s.statuses v (λ is. new_not_closed (status_of s.statuses v) k is e) in omega (arith, lt, search.statuses_size)

  number_at : (v k : ℕ) → status_of s.statuses v ≡ Closed k → number_of (map number_in s.statuses) v ≡ k
  number_at v k e = get_or-map number_in s.statuses v New 0 (let lt = closed_node v k e in omega (arith, lt, search.statuses_size)) ∙ ap number_in e

  -- no walk leads to a higher number
  no_higher : (a b k : ℕ) → status_of s.statuses a ≡ Closed k → Reaches g a b → (m : ℕ) × (status_of s.statuses b ≡ Closed m) × (m ≤ k)
  no_higher a b k e walk = along g (λ v. (m : ℕ) × (status_of s.statuses v ≡ Closed m) × (m ≤ k))
      (λ v w h edge. let r = search.closed.edges v w h.0 h.1 edge in let x = h.2 in let y = r.2 in (r.0, r.1, omega (arith, x, y)))
      a b (k, e, omega arith) walk

  not_higher : (a b : ℕ) → a < length g → Reaches g a b → number_of (map number_in s.statuses) b ≤ number_of (map number_in s.statuses) a
  not_higher a b lt walk =
      let c = closed_at a lt in
      let d = no_higher a b c.0 c.1 walk in
      let x = number_at a c.0 c.1 in
      let y = number_at b d.0 d.1 in
      let z = d.2 in
      omega (arith, x, y, z)

  mutual_same : (a b : ℕ) → a < length g → b < length g → number_of (map number_in s.statuses) a ≡ number_of (map number_in s.statuses) b → AreMutual g a b
  mutual_same a b in_a in_b e =
      let c = closed_at a in_a in
      let d = closed_at b in_b in
      let same : c.0 ≡ d.0 = let x = number_at a c.0 c.1 in let y = number_at b d.0 d.1 in omega (arith, x, y, e) in
      (search.closed.same a b d.0 (c.1 ∙ ap Closed same) d.1, search.closed.same b a d.0 d.1 (c.1 ∙ ap Closed same))

  are_components : AreComponentNumbers g (map number_in s.statuses)
  are_components = record {
    size = length-map s.statuses number_in ∙ search.statuses_size;
    positive = λ a lt. let c = closed_at a lt in let x = number_at a c.0 c.1 in let low = search.closed.low a c.0 c.1 in omega (arith, x, low);
    gapless = λ a k lt pos le.
        let c = closed_at a lt in
        let x = number_at a c.0 c.1 in
        let high = search.closed.high a c.0 c.1 in
        let r = search.closed.used k pos (omega (arith, le, x, high)) in
        let in_list : r.0 < length (map number_in s.statuses) = let inside = closed_node r.0 k r.1 in let n = length-map s.statuses number_in in omega (arith, inside, n, search.statuses_size) in
        subst (Contains (map number_in s.statuses)) (number_at r.0 k r.1) (Contains-get_or (map number_in s.statuses) r.0 0 in_list);
    same = λ a b in_a in_b. (
      mutual_same a b in_a in_b,
      λ walks.
          let x = not_higher a b in_a walks.0 in
          let y = not_higher b a in_b walks.1 in
          omega (arith, x, y),
    );
    lower = λ a b in_a walk no_way.
        let x = not_higher a b in_a walk in
        let c = closed_at a in_a in
        let d = no_higher a b c.0 c.1 walk in
        ⊎_elim
        (λ (e : number_of (map number_in s.statuses) a ≡ number_of (map number_in s.statuses) b). absurd (no_way (mutual_same a b in_a (closed_node b d.0 d.1) e).1))
        (λ (ne : number_of (map number_in s.statuses) a ≡ number_of (map number_in s.statuses) b → ⊥). let apart : number_of (map number_in s.statuses) a ≢ number_of (map number_in s.statuses) b = ne in omega (arith, x, apart))
        (cases_eq (number_of (map number_in s.statuses) a) (number_of (map number_in s.statuses) b));
  }

pub numbers_are : (g : List (List ℕ)) (s : Search) (numbers : List ℕ) → IsSearch g s → s.stack ≡ [] → AllMet (length g) s.statuses → numbers ≡ map number_in s.statuses → AreComponentNumbers g numbers
numbers_are g s numbers search empty met is = subst (AreComponentNumbers g) (sym is) (are_components g s search empty met)
