-- Steps as the edges of a graph.
use Rattle.std.proofs.Common.{◌≡◌, ℕ, ◌<◌, List, [], length, Contains, refl, sym, subst, ◌∙◌}
use Rattle.std.specs.Prelude.{◌↔◌, slice_index_or}
use Rattle.std.proofs.lemmas.List.{get_or_default}
use Rattle.std.proofs.lemmas.List.Elements.{All-contains}
use Rattle.components.specs.Graphs.{HasEdge, IsGraph, Reaches, AreComponentNumbers, number_of, successors_of}
use Rattle.components.specs.Graphs.Reaches.{here, step}
use Rattle.element_form.specs.Closures.{Leads, IsAmong, IsGraphOf}
use Rattle.element_form.specs.Closures.Leads.{one, more}

module _ {A : Type 0} (Step : A → A → Type 0) (xs : List A) (graph : List (List ℕ)) (is : IsGraphOf Step xs graph) (among : IsAmong xs Step) (well : IsGraph graph) (d : A) where
  abbrev at : ℕ → A
  at i = slice_index_or xs i d

  place : (a : A) → Contains xs a → (i : ℕ) × (i < length xs) × (at i ≡ a)
  place a (k, lt, e) = (k, lt, get_or_default xs k d a lt ∙ e)

  to_walk : (i : ℕ) → i < length xs → (b : A) → Leads Step (at i) b → (j : ℕ) → j < length xs → at j ≡ b → (k : ℕ) × HasEdge graph i k × Reaches graph k j
  to_walk i lt b (one s) j lj e = (j, (is.edges i j d lt lj).1 (subst (Step (at i)) (sym e) s), here)
  to_walk i lt b (more {b = m} p s) j lj e =
      let (n, ln, en) = place m (among m b s).0 in
      let (k, edge, w) = to_walk i lt m p n ln en in
      (k, edge, step w ((is.edges n j d ln lj).1 (subst (λ v. Step v (at j)) (sym en) (subst (Step m) (sym e) s))))

  inside : (i k : ℕ) → i < length xs → HasEdge graph i k → k < length xs
  inside i k lt edge = subst (λ n. k < n) is.size (All-contains (λ b. b < length graph) (successors_of graph i) k (well i [] (subst (λ n. i < n) (sym is.size) lt)) edge)

  from_walk : (i k j : ℕ) → i < length xs → HasEdge graph i k → Reaches graph k j → (j < length xs) × Leads Step (at i) (at j)
  from_walk i k j lt edge here = let lk = inside i k lt edge in (lk, one ((is.edges i k d lt lk).0 edge))
  from_walk i k j lt edge (step {b = m} w e) =
      let (lm, p) = from_walk i k m lt edge w in
      let lj = inside m j lm e in
      (lj, more p ((is.edges m j d lm lj).0 e))

  -- one or more steps lead from the one to the other where an edge and a walk do
  pub leads_is : (i j : ℕ) → i < length xs → j < length xs → Leads Step (at i) (at j) ↔ ((k : ℕ) × HasEdge graph i k × Reaches graph k j)
  leads_is i j lt lj = (λ p. to_walk i lt (at j) p j lj refl, λ (k, edge, w). (from_walk i k j lt edge w).1)

  -- and back to itself where an edge leads into its own component
  pub cycle_is : (numbers : List ℕ) → AreComponentNumbers graph numbers → (i : ℕ) → i < length xs → Leads Step (at i) (at i) ↔ ((k : ℕ) × HasEdge graph i k × (number_of numbers i ≡ number_of numbers k))
  cycle_is numbers are i lt =
      let wide : (k : ℕ) → k < length xs → k < length graph = λ k lk. subst (λ n. k < n) (sym is.size) lk in (
        λ p. let (k, edge, w) = to_walk i lt (at i) p i lt refl in (k, edge, (are.same i k (wide i lt) (wide k (inside i k lt edge))).1 (step here edge, w)),
        λ (k, edge, e). (from_walk i k i lt edge ((are.same i k (wide i lt) (wide k (inside i k lt edge))).0 e).1).1,
      )
