-- The graph by its edges, and by the successors of its nodes.
use Rattle.std.proofs.Common.{◌≡◌, ℕ, ◌<◌, ◌≤◌, inl, inr, List, [], ◌∷◌, ◌++◌, length, get_or, sym, ap, ◌∙◌, subst, arith, take, ◌+◌, Result, Ok, Err, IfOk}
use Rattle.std.specs.List.{Contains, All}
use Rattle.std.proofs.lemmas.Bool.{cases_eq}
use Rattle.std.proofs.lemmas.List.{get_or_default, take_more}
use Rattle.std.proofs.lemmas.List.Elements.{All-contains, Contains-append_left, Contains-push, Contains-push_cases}
use Rattle.components.specs.Graphs.{IsGraph, AreComponentNumbers, Reaches}
use Rattle.components.specs.Graphs.Reaches.{here, step}
use Rattle.pred_graph.specs.declared.graph.Edge.{Edge}
use Rattle.pred_graph.specs.Walks.{IsWalk, Leads}
use Rattle.pred_graph.specs.Graphs.{edge, HasEdge, IsEdgeBelow, successors_of, IsSuccessorAdded, AreRows, AreNumbers, number_of}
use Rattle.pred_graph.proofs.MemberLemmas.{nothing_in}
use Rattle.pred_graph.proofs.WalkLemmas.{leads_here, leads_more, leads_on}

pub no_rows : (nodes : ℕ) (rows : List (List ℕ)) → length rows ≡ nodes → ((a : ℕ) → successors_of rows a ≡ []) → AreRows nodes [] rows
no_rows nodes rows size none = record {
  size = size;
  into = λ a b h. absurd (nothing_in (edge a b) h);
  out = λ a b h. absurd (nothing_in b (subst (λ l. Contains l b) (none a) h));
}

added : (rows rows' : List (List ℕ)) (e : Edge) (a b : ℕ) → IsSuccessorAdded rows rows' e → Contains (successors_of rows a) b → Contains (successors_of rows' a) b
added rows rows' e a b s h = elim (cases_eq a e.from) [
  | inl is ↦
      let h' : Contains (successors_of rows e.from) b = subst (λ v. Contains (successors_of rows v) b) is h in
      subst (λ v. Contains (successors_of rows' v) b) (sym is) (subst (λ l. Contains l b) (sym s.here) (Contains-append_left (successors_of rows e.from) (e.to ∷ []) b h'))
  | inr isnt ↦ subst (λ l. Contains l b) (sym (s.others a isnt)) h
]

pub more_rows : (nodes : ℕ) (edges : List Edge) (rows rows' : List (List ℕ)) (e : Edge) → AreRows nodes edges rows → IsSuccessorAdded rows rows' e → AreRows nodes (edges ++ e ∷ []) rows'
more_rows nodes edges rows rows' e r s = record {
  size = s.size ∙ r.size;
  into = λ a b h. elim (Contains-push_cases edges e (edge a b) h) [
    | inl old ↦ added rows rows' e a b s (r.into a b old)
    | inr is ↦
        let at : e.from ≡ a = ap (λ (v : Edge). v.from) is in
        let to : e.to ≡ b = ap (λ (v : Edge). v.to) is in
        subst (λ v. Contains (successors_of rows' v) b) at (subst (λ l. Contains l b) (sym s.here)
        (subst (λ v. Contains (successors_of rows e.from ++ e.to ∷ []) v) to (Contains-push (successors_of rows e.from) e.to)))
  ];
  out = λ a b h. elim (cases_eq a e.from) [
    | inl is ↦
        let h' : Contains (successors_of rows e.from ++ e.to ∷ []) b = subst (λ l. Contains l b) s.here (subst (λ v. Contains (successors_of rows' v) b) is h) in
        elim (Contains-push_cases (successors_of rows e.from) e.to b h') [
          | inl old ↦ Contains-append_left edges (e ∷ []) (edge a b) (r.out a b (subst (λ v. Contains (successors_of rows v) b) (sym is) old))
          | inr to ↦
              let make : ℕ → ℕ → Edge = edge in
              let same : e ≡ edge a b = ap (λ v. make v e.to) (sym is) ∙ ap (λ v. make a v) to in
              subst (λ v. Contains (edges ++ e ∷ []) v) same (Contains-push edges e)
        ]
    | inr isnt ↦ Contains-append_left edges (e ∷ []) (edge a b) (r.out a b (subst (λ l. Contains l b) (s.others a isnt) h))
  ];
}

-- ---- walks

module _ (nodes : ℕ) (edges : List Edge) (rows : List (List ℕ)) (r : AreRows nodes edges rows) where
  pub leads_from : (a b : ℕ) → Reaches rows a b → Leads (HasEdge edges) a b
  leads_from a b here = leads_here (HasEdge edges) a
  leads_from a c (step {b = b} w e) = leads_on (HasEdge edges) a b c (leads_from a b w) (leads_more (HasEdge edges) b c c (r.out b c e) (leads_here (HasEdge edges) c))

  reaches_more : (a b c : ℕ) → HasEdge edges a b → Reaches rows b c → Reaches rows a c
  reaches_more a b c e here = step here (r.into a b e)
  reaches_more a b c e (step {b = d} w f) = step (reaches_more a b d e w) f

  walk_reaches : (a : ℕ) (w : List ℕ) (b : ℕ) → IsWalk (HasEdge edges) a w b → Reaches rows a b
  walk_reaches a [] b e = subst (λ v. Reaches rows a v) e here
  walk_reaches a (c ∷ w) b e = reaches_more a c b e.0 (walk_reaches c w b e.1)

  pub reaches_from : (a b : ℕ) → Leads (HasEdge edges) a b → Reaches rows a b
  reaches_from a b l = walk_reaches a l.0 b l.1

  pub numbers_from : (numbers : List ℕ) → AreComponentNumbers rows numbers → AreNumbers nodes edges numbers
  numbers_from numbers c = record {
    same = λ a b ha hb.
        let s = c.same a b (subst (λ v. a < v) (sym r.size) ha) (subst (λ v. b < v) (sym r.size) hb) in (
          (λ e. let m = s.0 e in (leads_from a b m.0, leads_from b a m.1)),
          (λ m. s.1 (reaches_from a b m.0, reaches_from b a m.1)),
        );
    lower = λ a b ha hb l none. c.lower a b (subst (λ v. a < v) (sym r.size) ha) (reaches_from a b l) (λ back. none (leads_from b a back));
    above = λ a ha. let p : 1 ≤ number_of numbers a = c.positive a (subst (λ v. a < v) (sym r.size) ha) in omega arith;
  }

  pub rows_graph : All (IsEdgeBelow nodes) edges → IsGraph rows
  rows_graph below k d lt j e jt =
      let b = get_or (get_or rows k d) j e in
      let has : Contains (get_or rows k d) b = (j, jt, get_or_default (get_or rows k d) j b e jt) in
      let h : HasEdge edges k b = r.out k b (subst (λ l. Contains l b) (get_or_default rows k d [] lt) has) in
      subst (λ v. b < v) (sym r.size) (All-contains (IsEdgeBelow nodes) edges (edge k b) below h).1

  pub numbered_if : {E : Type 0} (result : Result (List ℕ) E) → IfOk result (AreComponentNumbers rows) → IfOk result (AreNumbers nodes edges)
  numbered_if (Ok numbers) h = numbers_from numbers h
  numbered_if (Err e) h = tt

pub rows_step : (nodes : ℕ) (edges : List Edge) (i : ℕ) (d : Edge) (rows rows' : List (List ℕ)) → i < length edges → AreRows nodes (take i edges) rows → IsSuccessorAdded rows rows' (get_or edges i d) → AreRows nodes (take (i + 1) edges) rows'
rows_step nodes edges i d rows rows' lt r s =
    subst (λ es. AreRows nodes es rows') (sym (take_more edges i d lt)) (more_rows nodes (take i edges) rows rows' (get_or edges i d) r s)
