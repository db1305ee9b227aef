-- Statements that reach themselves are nodes with a successor in their component.
use Rattle.std.proofs.Common.{◌≡◌, ℕ, zero, suc, ◌+◌, ◌<◌, ◌↔◌, Bool, true, false, IsTrue, List, [], ◌∷◌, ◌++◌, length, map, Option, Some, None, slice_get, refl, sym, ap, ◌∙◌, subst, arith}
use Rattle.std.specs.Prelude.{All, Contains, filter, ◌==◌, if◌then◌else◌}
use Rattle.std.specs.List.{list_any}
use Rattle.std.proofs.lemmas.Bool.{eqb-true, eq-eqb}
use Rattle.std.proofs.lemmas.List.{length-map}
use Rattle.std.proofs.lemmas.Option.{slice_get_within}
use Rattle.ap_syntax.specs.declared.preferences.Preference.{Preference}
use Rattle.components.specs.Graphs.{AreComponentNumbers, HasEdge, IsGraph, number_of, successors_of}
use Rattle.components.specs.Graphs as graphs
use Rattle.components.specs.Graphs.Reaches.{here, step}
use Rattle.components.proofs.Walks.{reaches_edge}
use Rattle.pref_bind.specs.Cycles.{AreCyclic, names_of}
use Rattle.pref_bind.specs.Found.{cyclic_from, is_cyclic}
use Rattle.pref_bind.specs.Naming.{DoesName, names_in, Reaches}
use Rattle.pref_bind.specs.Naming.Reaches.{named, through}
use Rattle.pref_bind.specs.Stacks.{graph_of, number_in, numbers_in, or_count, place_in}
use Rattle.pref_bind.proofs.BoundLemmas.{IsBound}
use Rattle.pref_bind.proofs.MemberLemmas.{all_if, any_true, at_row, from_map, in_map, in_read, read_in, row_at, true_any}
use Rattle.pref_bind.proofs.PlaceLemmas.{place_within}

some_same : (i j : ℕ) → Some i ≡ Some j → i ≡ j
some_same i j e = cc

same_read : (ps : List Preference) (i : ℕ) (p q : Preference) → slice_get ps i ≡ Some p → slice_get ps i ≡ Some q → p ≡ q
same_read ps i p q e f = let both : Some p ≡ Some q = sym e ∙ f in cc

module _ (ps : List Preference) (bound : IsBound ps) where
  abbrev graph : List (List ℕ)
  graph = graph_of ps

  number_is : (name : List ℕ) (i : ℕ) → place_in ps name ≡ Some i → number_in ps name ≡ i
  number_is name i e = ap (or_count ps) e

  -- ---- edges

  pub edge_of : (i j : ℕ) (p : Preference) (name : List ℕ) → slice_get ps i ≡ Some p → Contains (names_in p) name → place_in ps name ≡ Some j → HasEdge graph i j
  edge_of i j p name at h e =
      subst (λ row. Contains row j) (sym (row_at (numbers_in ps) ps i p at))
      (subst (Contains (numbers_in ps p)) (number_is name j e) (in_map (number_in ps) (names_in p) name h))

  -- an edge leads from a statement to one that it names
  pub edge_from : (i j : ℕ) → HasEdge graph i j → (p q : Preference) × (slice_get ps i ≡ Some p) × (slice_get ps j ≡ Some q) × Contains (names_in p) q.name
  edge_from i j h =
      let r = at_row (numbers_in ps) ps i j h in
      let p = r.0 in
      let found = from_map (number_in ps) (names_in p) j (subst (λ row. Contains row j) (row_at (numbers_in ps) ps i p r.1) h) in
      let name = found.0 in
      let there = bound.declared i p name r.1 found.1 in
      let place = place_within ps name there.0 there.1 in
      let same : there.0 ≡ j = sym (number_is name there.0 there.1) ∙ found.2 in
      (p, place.0, r.1, subst (λ k. slice_get ps k ≡ Some place.0) same place.1, subst (Contains (names_in p)) (sym place.2) found.1)

  edge_below : (i j : ℕ) → HasEdge graph i j → j < length ps
  edge_below i j h = let r = edge_from i j h in slice_get_within ps j r.1 r.3

  -- ---- walks

  -- a name that is reached is reached by an edge and a walk behind it
  pub walk_of : (x y : List ℕ) (i : ℕ) → place_in ps x ≡ Some i → Reaches ps x y → (j b : ℕ) × (place_in ps y ≡ Some j) × HasEdge graph i b × graphs.Reaches graph b j
  walk_of x y i e (named (p, member, is, names)) =
      let read = in_read ps p member in
      let place = bound.first read.0 p read.1 in
      let same : read.0 ≡ i = some_same read.0 i (sym place ∙ (ap (place_in ps) is ∙ e)) in
      let there = bound.declared read.0 p y read.1 names in
      let edge = edge_of i there.0 p y (subst (λ k. slice_get ps k ≡ Some p) same read.1) names there.1 in
      (there.0, there.0, there.1, edge, here)
  walk_of x y i e (through {middle = middle} before (p, member, is, names)) =
      let first = walk_of x middle i e before in
      let read = in_read ps p member in
      let place = bound.first read.0 p read.1 in
      let same : read.0 ≡ first.0 = some_same read.0 first.0 (sym place ∙ (ap (place_in ps) is ∙ first.2)) in
      let there = bound.declared read.0 p y read.1 names in
      let edge = edge_of first.0 there.0 p y (subst (λ k. slice_get ps k ≡ Some p) same read.1) names there.1 in
      (there.0, first.1, there.1, first.3, step first.4 edge)

  -- an edge and a walk behind it lead to a name that is reached
  pub reach_of : (i b c : ℕ) (p q : Preference) → slice_get ps i ≡ Some p → slice_get ps c ≡ Some q → HasEdge graph i b → graphs.Reaches graph b c → Reaches ps p.name q.name
  reach_of i b c p q at end edge here =
      let r = edge_from i b edge in
      let from : r.0 ≡ p = same_read ps i r.0 p r.2 at in
      let to : r.1 ≡ q = same_read ps b r.1 q r.3 end in
      named (p, read_in ps i p at, refl, subst (λ (z : Preference). Contains (names_in p) z.name) to (subst (λ (z : Preference). Contains (names_in z) r.1.name) from r.4))
  reach_of i b c p q at end edge (step {b = m} walk last) =
      let r = edge_from m c last in
      let to : r.1 ≡ q = same_read ps c r.1 q r.3 end in
      through (reach_of i b m p r.0 at r.2 edge walk) (r.0, read_in ps m r.0 r.2, refl, subst (λ (z : Preference). Contains (names_in r.0) z.name) to r.4)

  -- ---- the graph

  size : length graph ≡ length ps
  size = length-map ps (numbers_in ps)

  below_of : (i : ℕ) (p : Preference) (j : ℕ) → slice_get ps i ≡ Some p → Contains (numbers_in ps p) j → j < length graph
  below_of i p j at h =
      let lt = edge_below i j (subst (λ row. Contains row j) (sym (row_at (numbers_in ps) ps i p at)) h) in
      let same = size in omega (arith, lt, same)

  pub is_graph : IsGraph graph
  is_graph = all_if (All (λ b. b < length graph)) graph (λ row h.
      let r = from_map (numbers_in ps) ps row h in
      let read = in_read ps r.0 r.1 in
      all_if (λ b. b < length graph) row (λ j g. below_of read.0 r.0 j read.1 (subst (λ xs. Contains xs j) (sym r.2) g)))

  -- ---- components

  module _ (numbers : List ℕ) (is : AreComponentNumbers graph numbers) where
    abbrev test : List ℕ → Bool
    test name = is_cyclic graph numbers (number_in ps name)

    to_cycle : (i : ℕ) (p : Preference) → slice_get ps i ≡ Some p → is_cyclic graph numbers i ≡ true → Reaches ps p.name p.name
    to_cycle i p at e =
        let found = true_any (λ b. number_of numbers b == number_of numbers i) (successors_of graph i) e in
        let b = found.0 in
        let same = eqb-true (number_of numbers b) (number_of numbers i) found.2 in
        let lt = slice_get_within ps i p at in
        let lt' = edge_below i b found.1 in
        let n = size in
        let both = (is.same b i (omega (arith, lt', n)) (omega (arith, lt, n))).0 same in
        reach_of i b i p p at at found.1 both.0

    from_cycle : (i : ℕ) (p : Preference) → slice_get ps i ≡ Some p → Reaches ps p.name p.name → is_cyclic graph numbers i ≡ true
    from_cycle i p at reach =
        let place = bound.first i p at in
        let walk = walk_of p.name p.name i place reach in
        let b = walk.1 in
        let same : walk.0 ≡ i = some_same walk.0 i (sym walk.2 ∙ place) in
        let back = subst (graphs.Reaches graph b) same walk.4 in
        let lt = slice_get_within ps i p at in
        let lt' = edge_below i b walk.3 in
        let n = size in
        let equal = (is.same b i (omega (arith, lt', n)) (omega (arith, lt, n))).1 (back, reaches_edge graph i b walk.3) in
        any_true (λ c. number_of numbers c == number_of numbers i) (successors_of graph i) b walk.3 (eq-eqb (number_of numbers b) (number_of numbers i) equal)

    tells_at : (i : ℕ) (p : Preference) → slice_get ps i ≡ Some p → number_in ps p.name ≡ i → IsTrue (test p.name) ↔ Reaches ps p.name p.name
    tells_at i p at number = (λ h. to_cycle i p at (ap (is_cyclic graph numbers) (sym number) ∙ h), λ h. ap (is_cyclic graph numbers) number ∙ from_cycle i p at h)

    tells : (p : Preference) → Contains ps p → IsTrue (test p.name) ↔ Reaches ps p.name p.name
    tells p member =
        let read = in_read ps p member in
        tells_at read.0 p read.1 (number_is p.name read.0 (bound.first read.0 p read.1))

    -- the names of those behind the first k
    filtered : (k : ℕ) (rest : List Preference) → ((i : ℕ) (p : Preference) → slice_get rest i ≡ Some p → number_in ps p.name ≡ k + i) → cyclic_from graph numbers k rest ≡ filter test (names_of rest)
    filtered k [] h = refl
    filtered k (p ∷ rest) h =
        let first : number_in ps p.name ≡ k = h 0 p refl ∙ omega arith in
        let later = filtered (k + 1) rest (λ i q at. h (suc i) q at ∙ omega arith) in
        let same : is_cyclic graph numbers k ≡ test p.name = ap (is_cyclic graph numbers) (sym first) in
        ap (λ b. if b then p.name ∷ cyclic_from graph numbers (k + 1) rest else cyclic_from graph numbers (k + 1) rest) same
        ∙ ap (λ names. if test p.name then p.name ∷ names else names) later

    pub are_cyclic : AreCyclic ps (cyclic_from graph numbers 0 ps)
    are_cyclic = record {
      test = test;
      tells = tells;
      list_is = filtered 0 ps (λ i p at. number_is p.name i (bound.first i p at) ∙ omega arith);
    }
