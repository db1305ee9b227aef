-- An edge from an unfinished node of the uppermost segment.
use Rattle.std.proofs.Common.{◌≡◌, ℕ, ◌-◌, ◌<◌, ◌≤◌, List, [], length, subst, arith, ⊎_elim, inl, inr}
use Rattle.std.specs.Prelude.{Contains}
use Rattle.std.proofs.lemmas.Bool.{cases_lt}
use Rattle.std.proofs.lemmas.List.{get_or_past}
use Rattle.std.proofs.lemmas.List.Elements.{All-contains}
use Rattle.components.specs.Graphs.{IsGraph, successors_of, HasEdge, Reaches}
use Rattle.components.specs.declared.search.Search.{Search}
use Rattle.components.specs.declared.search.Status.TheVariants.{New, Open, Closed}
use Rattle.components.specs.Searches.{at, status_of, CanFollow, IsLast, IsSearch, IsStep, opened, passed, joined}
use Rattle.components.proofs.Walks.{reaches_then, reaches_edge}
use Rattle.components.proofs.Ends.{upto_last}
use Rattle.components.proofs.Steps.{next_edge, push_step, pass_step, join_step}

-- an edge leads to a node
pub edge_in : (g : List (List ℕ)) (v w : ℕ) → IsGraph g → HasEdge g v w → w < length g
edge_in g v w graph edge = ⊎_elim
    (λ (lt : v < length g). All-contains (λ b. b < length g) (successors_of g v) w (graph v [] lt) edge)
    (λ (past : length g ≤ v). let m = subst (λ (xs : List ℕ). Contains xs w) (get_or_past g v [] past) edge in let lt : m.0 < 0 = m.1 in absurd (omega arith))
    (cases_lt v (length g))

module _ (g : List (List ℕ)) (s : Search) (top v w : ℕ) (search : IsSearch g s) (is_last : IsLast s.starts top) (can : CanFollow g s top v w) where
  pub follow_in : IsGraph g → w < length s.statuses
  follow_in graph = let lt = edge_in g v w graph (next_edge g s top v w search can) in omega (arith, lt, search.statuses_size)

  reach : (i : ℕ) → i < length s.stack → Reaches g (at s.stack i) w
  reach i lt =
      let end : ℕ = length s.stack - 1 in
      let inside = can.inside in
      let upper = can.upper in
      let to_end = search.path.up i end (omega arith) (omega arith) in
      let to_place = search.path.down can.place end (omega arith) (omega arith) (λ t m t_le. let q : t ≤ top = upto_last s.starts top is_last search.starts.ascending t m in omega (arith, q, upper)) in
      let to_w = subst (λ a. Reaches g a w) can.node (reaches_edge g v w (next_edge g s top v w search can)) in
      reaches_then g (at s.stack i) (at s.stack end) w to_end (reaches_then g (at s.stack end) (at s.stack can.place) w to_place to_w)

  pub follow_new : IsGraph g → status_of s.statuses w ≡ New → IsStep g s (opened s w)
  follow_new graph is_new = push_step g s w search (edge_in g v w graph (next_edge g s top v w search can)) is_new reach

  pub follow_closed : (k : ℕ) → status_of s.statuses w ≡ Closed k → IsStep g s (passed s v)
  follow_closed k e = pass_step g s top v w search can (inl (k, e))

  pub follow_within : (p : ℕ) → status_of s.statuses w ≡ Open p → top ≤ p → IsStep g s (passed s v)
  follow_within p e le = pass_step g s top v w search can (inr (p, e, λ t m t_le. let q : t ≤ top = upto_last s.starts top is_last search.starts.ascending t m in omega arith))

  pub follow_back : (p : ℕ) → status_of s.statuses w ≡ Open p → p < top → IsStep g s (joined s)
  follow_back p e lower = join_step g s top v w p search is_last can e lower
