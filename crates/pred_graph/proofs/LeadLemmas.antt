-- The least set of the rules that go against edges has the nodes that lead to one of those that are facts.
use Rattle.std.proofs.Common.{◌≡◌, ℕ, zero, suc, ◌<◌, inl, inr, Bool, true, false, ◌&&◌, ◌||◌, List, [], ◌∷◌, ◌++◌, length, get_or, take, map, refl, sym, ◌∙◌, subst, arith}
use Rattle.std.specs.Prelude.{IsTrue, not}
use Rattle.std.specs.List.{Contains, All}
use Rattle.std.proofs.lemmas.List.{get_or-take}
use Rattle.std.proofs.Common.{length-take}
use Rattle.std.proofs.lemmas.List.Elements.{All-contains, Contains-append_cases, Contains-append_left, Contains-append_right}
use Rattle.std.proofs.lemmas.List.Sums.{AllPass-from_list_all}
use Rattle.definite.specs.declared.Rule.{Rule}
use Rattle.definite.specs.declared.Derived.{Derived}
use Rattle.definite.specs.Rules.{marked, obeys, IsDerived, IsRuleOf, Follows}
use Rattle.pred_graph.specs.declared.graph.Edge.{Edge}
use Rattle.pred_graph.specs.Walks.{IsWalk, Leads}
use Rattle.pred_graph.specs.Graphs.{edge, HasEdge, IsEdgeBelow}
use Rattle.pred_graph.specs.Judged.{edge_rule, fact_rule, AreLeading}
use Rattle.pred_graph.proofs.MemberLemmas.{nothing_in, head_or_tail, in_map, from_map, from_any, all_if}
use Rattle.pred_graph.proofs.WalkLemmas.{leads_here, leads_more}

abbrev rules_of : List Edge → List ℕ → List Rule
rules_of edges nodes = map edge_rule edges ++ map fact_rule nodes

only_one : (x y : ℕ) → Contains (x ∷ []) y → x ≡ y
only_one x y h = elim (head_or_tail x [] y h) [ inl e ↦ e | inr none ↦ absurd (nothing_in y none) ]

one_below : (n x : ℕ) → x < n → All (λ a. a < n) (x ∷ [])
one_below n x lt = all_if (λ a. a < n) (x ∷ []) (λ y h. subst (λ v. v < n) (only_one x y h) lt)

none_below : (n : ℕ) → All (λ a. a < n) []
none_below n = all_if (λ a. a < n) [] (λ y h. absurd (nothing_in y h))

pub rules_below : (size : ℕ) (edges : List Edge) (nodes : List ℕ) → All (IsEdgeBelow size) edges → All (λ a. a < size) nodes → All (IsRuleOf size) (rules_of edges nodes)
rules_below size edges nodes below small = all_if (IsRuleOf size) (rules_of edges nodes) (λ rule h.
    elim (Contains-append_cases (map edge_rule edges) (map fact_rule nodes) rule h) [
      | inl first ↦
          let r = from_map edge_rule edges rule first in
          let ends = All-contains (IsEdgeBelow size) edges r.0 below r.1 in
          subst (IsRuleOf size) r.2 (record { body = one_below size r.0.to ends.1; heads = one_below size r.0.from ends.0 })
      | inr last ↦
          let r = from_map fact_rule nodes rule last in
          subst (IsRuleOf size) r.2 (record { body = none_below size; heads = one_below size r.0 (All-contains (λ a. a < size) nodes r.0 small r.1) })
    ])

-- ---- marked nodes lead to a fact

module _ (edges : List Edge) (nodes : List ℕ) (size : ℕ) (found : Derived) (d : IsDerived (rules_of edges nodes) size found) where
  abbrev LeadsToFact : ℕ → Type 0
  LeadsToFact a = (f : ℕ) × Contains nodes f × Leads (HasEdge edges) a f

  follows_step : (i a : ℕ) → ((b : ℕ) → Contains (take i found.order) b → LeadsToFact b) → Follows (rules_of edges nodes) (take i found.order) a → LeadsToFact a
  follows_step i a before h =
      let r = from_any (λ (rule : Rule). Contains rule.heads a × All (Contains (take i found.order)) rule.body) (rules_of edges nodes) h in
      elim (Contains-append_cases (map edge_rule edges) (map fact_rule nodes) r.0 r.1) [
        | inl first ↦
            let s = from_map edge_rule edges r.0 first in
            let e : Edge = s.0 in
            let heads : Contains (e.from ∷ []) a = subst (λ (v : Rule). Contains v.heads a) (sym s.2) r.2.0 in
            let body : All (Contains (take i found.order)) (e.to ∷ []) = subst (λ (v : Rule). All (Contains (take i found.order)) v.body) (sym s.2) r.2.1 in
            let is : e.from ≡ a = only_one e.from a heads in
            let rest = before e.to (body 0 0 (omega arith)) in
            let has : HasEdge edges a e.to = subst (λ v. HasEdge edges v e.to) is s.1 in
            (rest.0, rest.1, leads_more (HasEdge edges) a e.to rest.0 has rest.2)
        | inr last ↦
            let s = from_map fact_rule nodes r.0 last in
            let heads : Contains (s.0 ∷ []) a = subst (λ (v : Rule). Contains v.heads a) (sym s.2) r.2.0 in
            let is : s.0 ≡ a = only_one s.0 a heads in
            (a, subst (λ v. Contains nodes v) is s.1, leads_here (HasEdge edges) a)
      ]

  in_order : (bound i a : ℕ) → i < bound → i < length found.order → get_or found.order i a ≡ a → LeadsToFact a
  in_order zero i a lt within is = absurd (omega arith)
  in_order (suc bound) i a lt within is =
      follows_step i a
      (λ b h.
      let len = length-take i found.order in
      let j : ℕ = h.0 in
      let jt : j < length (take i found.order) = h.1 in
      let below : j < i = omega arith in
      let same : get_or found.order j b ≡ b = sym (get_or-take i found.order j b below) ∙ h.2 in
      in_order bound j b (omega arith) (omega arith) same)
      (subst (λ v. Follows (rules_of edges nodes) (take i found.order) v) is (d.order.follows i a within))

  fact_from_mark : (a : ℕ) → IsTrue (marked found.marks a) → LeadsToFact a
  fact_from_mark a h = let o = (d.same a).0 h in in_order (suc o.0) o.0 a (omega arith) o.1 o.2

  -- ---- nodes that lead to a fact are marked

  obeyed : (rule : Rule) → Contains (rules_of edges nodes) rule → obeys (marked found.marks) rule ≡ true
  obeyed rule h =
      All-contains (λ (v : Rule). obeys (marked found.marks) v ≡ true) (rules_of edges nodes) rule (AllPass-from_list_all (obeys (marked found.marks)) (rules_of edges nodes) d.least.closed) h

  by_edge : (m k : Bool) → not (m && true) || (k && true) ≡ true → m ≡ true → k ≡ true
  by_edge true true h e = refl
  by_edge true false h e = cc
  by_edge false k h e = cc

  by_fact : (k : Bool) → not true || (k && true) ≡ true → k ≡ true
  by_fact true h = refl
  by_fact false h = cc

  mark_back : (a b : ℕ) → HasEdge edges a b → IsTrue (marked found.marks b) → IsTrue (marked found.marks a)
  mark_back a b e h =
      by_edge (marked found.marks b) (marked found.marks a)
      (obeyed (edge_rule (edge a b)) (Contains-append_left (map edge_rule edges) (map fact_rule nodes) (edge_rule (edge a b)) (in_map edge_rule edges (edge a b) e))) h

  mark_fact : (f : ℕ) → Contains nodes f → IsTrue (marked found.marks f)
  mark_fact f h =
      by_fact (marked found.marks f)
      (obeyed (fact_rule f) (Contains-append_right (map edge_rule edges) (map fact_rule nodes) (fact_rule f) (in_map fact_rule nodes f h)))

  mark_walk : (a : ℕ) (w : List ℕ) (f : ℕ) → IsWalk (HasEdge edges) a w f → IsTrue (marked found.marks f) → IsTrue (marked found.marks a)
  mark_walk a [] f e h = subst (λ v. IsTrue (marked found.marks v)) (sym e) h
  mark_walk a (b ∷ w) f e h = mark_back a b e.0 (mark_walk b w f e.1 h)

  pub leading_marks : AreLeading edges nodes found.marks
  leading_marks a = (fact_from_mark a, λ l. mark_walk a l.2.0 l.0 l.2.1 (mark_fact l.0 l.1))
