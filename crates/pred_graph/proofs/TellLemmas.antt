-- The nodes that are not decided stand for the predicates that are not.
use Rattle.std.proofs.Common.{◌≡◌, ℕ, ◌+◌, ◌<◌, ◌⊎◌, inl, inr, ◌↔◌, Bool, true, false, cond, ◌&&◌, List, [], ◌∷◌, ◌++◌, length, flat_map, refl, subst, arith}
use Rattle.std.specs.Prelude.{nat_lt, ◌==◌}
use Rattle.std.specs.List.{Contains, All, Any}
use Rattle.std.proofs.lemmas.Bool.{lt-ltb, ltb-true, eqb-true, eq-eqb}
use Rattle.std.proofs.lemmas.List.Elements.{All-contains, Contains-append_cases, Contains-append_left, Contains-append_right}
use Rattle.ap_syntax.specs.declared.rules.Rule.{Rule}
use Rattle.ap_syntax.specs.declared.rules.HeadForm.{HeadForm}
use Rattle.ap_syntax.specs.declared.rules.HeadForm.TheVariants.{One, Choice, Nothing}
use Rattle.pred_graph.specs.declared.pred.Pred.{Pred}
use Rattle.pred_graph.specs.declared.graph.Edge.{Edge}
use Rattle.pred_graph.specs.Walks.{Leads}
use Rattle.pred_graph.specs.Predicates.{pred_of, head_preds, choice_preds, Depends}
use Rattle.pred_graph.specs.Components.{is_open_name, IsOpen, IsDecided, IsDefinite}
use Rattle.pred_graph.specs.Tables.{place_in}
use Rattle.pred_graph.specs.Graphs.{edge, HasEdge, IsEdgeBelow, edges_from, Orders, number_of}
use Rattle.pred_graph.specs.Judged.{inner_nodes, choice_nodes, open_nodes, open_nodes_of, undecided_nodes}
use Rattle.pred_graph.proofs.MemberLemmas.{nothing_in, at_head, head_or_tail, in_map, from_map, in_flat_map, from_flat_map, any_of, from_any, all_if}
use Rattle.pred_graph.proofs.PlaceLemmas.{both, in_keys, place_within}
use Rattle.pred_graph.proofs.EdgeLemmas.{Kind, kind_of}
use Rattle.pred_graph.proofs.EdgeLemmas.Kind.{by_head, by_body, by_condition}
use Rattle.pred_graph.proofs.DependLemmas.{Numbers, models, ends, head_mentioned}
use Rattle.pred_graph.proofs.GraphLemmas.{Tells, Decided, definite_iff}

-- a choice has it in the head, or another program or a search decides it
pub Bad : List Rule → Bool → Pred → Type 0
Bad rules base p = Any (λ (rule : Rule). Contains (choice_preds rule.head) p) rules ⊎ IsOpen base p

-- ---- decided predicates, said in the two ways

pub decided_to : (rules : List Rule) (base : Bool) (p : Pred) → Decided (Depends rules) (Bad rules base) p → IsDecided rules base p
unfolding Bad
decided_to rules base p d = record {
  no_choice = all_if (λ (rule : Rule). Contains (choice_preds rule.head) p → ⊥) rules (λ rule h has. d.good (inl (any_of (λ (rule : Rule). Contains (choice_preds rule.head) p) rules rule h has)));
  no_loop = d.no_loop;
  not_open = λ h. d.good (inr h);
}

pub decided_from : (rules : List Rule) (base : Bool) (p : Pred) → IsDecided rules base p → Decided (Depends rules) (Bad rules base) p
unfolding Bad
decided_from rules base p d = record {
  good = λ bad. elim bad [
    | inl some ↦
        let r = from_any (λ (rule : Rule). Contains (choice_preds rule.head) p) rules some in
        All-contains (λ (rule : Rule). Contains (choice_preds rule.head) p → ⊥) rules r.0 d.no_choice r.1 r.2
    | inr h ↦ d.not_open h
  ];
  no_loop = d.no_loop;
}

-- ---- members of the list of nodes

chosen : (b : Bool) (x y : ℕ) → Contains (cond b (x ∷ []) []) y → (b ≡ true) × (x ≡ y)
chosen true x y h = elim (head_or_tail x [] y h) [ inl e ↦ (refl, e) | inr none ↦ absurd (nothing_in y none) ]
chosen false x y h = absurd (nothing_in y h)

choose : (b : Bool) (x : ℕ) → b ≡ true → Contains (cond b (x ∷ []) []) x
choose true x e = at_head x []
choose false x e = cc

both_true : (a b : Bool) → a ≡ true → b ≡ true → a && b ≡ true
both_true true b e f = f
both_true false b e f = cc

pub choice_in_head : (head : HeadForm) (p : Pred) → Contains (choice_preds head) p → Contains (head_preds head) p
choice_in_head (One atom) p h = absurd (nothing_in p h)
choice_in_head (Choice left elements right) p h = h
choice_in_head Nothing p h = absurd (nothing_in p h)

module _ (rules : List Rule) (base : Bool) (keys : List Pred) (numbers : List ℕ) (t : Numbers rules (length keys) (place_in keys)) where
  abbrev Number : Pred → ℕ
  Number = place_in keys

  abbrev Edges : List Edge
  Edges = edges_from (place_in keys) (length keys) rules

  abbrev Nodes : List ℕ
  Nodes = undecided_nodes base (place_in keys) keys numbers (edges_from (place_in keys) (length keys) rules) rules

  bad_there : (b : Bool) (x : Pred) → place_in keys x < length keys → IsOpen b x → Contains (open_nodes_of b (place_in keys) keys) (place_in keys x)
  bad_there true x lt h = absurd h
  bad_there false x lt h =
      in_flat_map (open_nodes (place_in keys)) keys x (place_in keys x) (in_keys keys x lt) (choose (is_open_name x.name) (place_in keys x) h)

  is_bad : (b : Bool) (f : ℕ) → Contains (open_nodes_of b (place_in keys) keys) f → (x : Pred) × (place_in keys x ≡ f) × (f < length keys) × IsOpen b x
  is_bad true f h = absurd (nothing_in f h)
  is_bad false f h =
      let r = from_flat_map (open_nodes (place_in keys)) keys f h in
      let s = chosen (is_open_name r.0.name) (place_in keys r.0) f r.2 in
      (r.0, s.1, subst (λ v. v < length keys) s.1 (place_within keys r.0 r.1), s.0)

  pred_at : (a b : ℕ) → a < length keys → Kind (place_in keys) rules (length keys) a b → (x : Pred) × (place_in keys x ≡ a)
  pred_at a b lt (by_head i rule p at has is to) = (p, is)
  pred_at a b lt (by_body i rule q at has is to) = absurd (omega arith)
  pred_at a b lt (by_condition rule element q r e has is to) = (pred_of element.atom, is)

  loop_there : (a c : ℕ) → a < length keys → HasEdge Edges a c → number_of numbers a ≡ number_of numbers c → Contains Nodes a
  loop_there a c lt e same =
      Contains-append_left (flat_map (inner_nodes (length keys) numbers) Edges ++ flat_map (choice_nodes (place_in keys)) rules) (open_nodes_of base (place_in keys) keys) a
      (Contains-append_left (flat_map (inner_nodes (length keys) numbers) Edges) (flat_map (choice_nodes (place_in keys)) rules) a
      (in_flat_map (inner_nodes (length keys) numbers) Edges (edge a c) a e
      (choose (nat_lt a (length keys) && (number_of numbers a == number_of numbers c)) a
      (both_true (nat_lt a (length keys)) (number_of numbers a == number_of numbers c) (lt-ltb a (length keys) lt) (eq-eqb (number_of numbers a) (number_of numbers c) same)))))

  choice_there : (x : Pred) (rule : Rule) → Contains rules rule → Contains (choice_preds rule.head) x → Contains Nodes (place_in keys x)
  choice_there x rule h has =
      Contains-append_left (flat_map (inner_nodes (length keys) numbers) Edges ++ flat_map (choice_nodes (place_in keys)) rules) (open_nodes_of base (place_in keys) keys) (place_in keys x)
      (Contains-append_right (flat_map (inner_nodes (length keys) numbers) Edges) (flat_map (choice_nodes (place_in keys)) rules) (place_in keys x)
      (in_flat_map (choice_nodes (place_in keys)) rules rule (place_in keys x) h (in_map (place_in keys) (choice_preds rule.head) x has)))

  fact_there : (x : Pred) → place_in keys x < length keys → Bad rules base x → Contains Nodes (place_in keys x)
  unfolding Bad
  fact_there x lt (inl some) =
      let r = from_any (λ (rule : Rule). Contains (choice_preds rule.head) x) rules some in choice_there x r.0 r.1 r.2
  fact_there x lt (inr h) =
      Contains-append_right (flat_map (inner_nodes (length keys) numbers) Edges ++ flat_map (choice_nodes (place_in keys)) rules) (open_nodes_of base (place_in keys) keys) (place_in keys x) (bad_there base x lt h)

  abbrev IsFact : ℕ → Type 0
  IsFact f = (x : Pred) × (place_in keys x ≡ f) × (f < length keys) × (Bad rules base x ⊎ ((c : ℕ) × HasEdge Edges f c × (number_of numbers f ≡ number_of numbers c)))

  inner_fact : (f : ℕ) → Contains (flat_map (inner_nodes (length keys) numbers) Edges) f → IsFact f
  inner_fact f h =
      let r = from_flat_map (inner_nodes (length keys) numbers) Edges f h in
      let e : Edge = r.0 in
      let s = chosen (nat_lt e.from (length keys) && (number_of numbers e.from == number_of numbers e.to)) e.from f r.2 in
      let parts = both (nat_lt e.from (length keys)) (number_of numbers e.from == number_of numbers e.to) s.0 in
      let lt : f < length keys = subst (λ v. v < length keys) s.1 (ltb-true e.from (length keys) parts.0) in
      let has : HasEdge Edges f e.to = subst (λ v. HasEdge Edges v e.to) s.1 r.1 in
      let x = pred_at f e.to lt (kind_of (place_in keys) rules (length keys) f e.to has) in
      (x.0, x.1, lt, inr (e.to, has, subst (λ v. number_of numbers v ≡ number_of numbers e.to) s.1 (eqb-true (number_of numbers e.from) (number_of numbers e.to) parts.1)))

  choice_fact : (f : ℕ) → Contains (flat_map (choice_nodes (place_in keys)) rules) f → IsFact f
  unfolding Bad
  choice_fact f h =
      let r = from_flat_map (choice_nodes (place_in keys)) rules f h in
      let s = from_map (place_in keys) (choice_preds r.0.head) f r.2 in
      let lt = t.known s.0 (head_mentioned rules r.0 s.0 r.1 (choice_in_head r.0.head s.0 s.1)) in
      (s.0, s.2, subst (λ v. v < length keys) s.2 lt, inl (inl (any_of (λ (rule : Rule). Contains (choice_preds rule.head) s.0) rules r.0 r.1 s.1)))

  open_fact : (f : ℕ) → Contains (open_nodes_of base (place_in keys) keys) f → IsFact f
  unfolding Bad
  open_fact f h = let r = is_bad base f h in (r.0, r.1, r.2, inl (inr r.3))

  fact_of : (f : ℕ) → Contains Nodes f → IsFact f
  fact_of f h =
      elim (Contains-append_cases (flat_map (inner_nodes (length keys) numbers) Edges ++ flat_map (choice_nodes (place_in keys)) rules) (open_nodes_of base (place_in keys) keys) f h) [
        | inl first ↦ elim (Contains-append_cases (flat_map (inner_nodes (length keys) numbers) Edges) (flat_map (choice_nodes (place_in keys)) rules) f first) [
          | inl inner ↦ inner_fact f inner
          | inr choice ↦ choice_fact f choice
        ]
        | inr last ↦ open_fact f last
      ]

  pub tells : Tells (length keys) (length keys + length rules) (place_in keys) (HasEdge Edges) (number_of numbers) (Bad rules base) (Contains Nodes)
  tells = record {
    within = ends rules (length keys) (place_in keys) t;
    bad = fact_there;
    loop = loop_there;
    only = fact_of;
  }

  pub nodes_below : (f : ℕ) → Contains Nodes f → f < length keys
  nodes_below f h = (fact_of f h).2

  -- ---- definite predicates

  pub definite_known : Orders (length keys + length rules) (HasEdge Edges) (number_of numbers) → (p : Pred) → place_in keys p < length keys
      → ((f : ℕ) → Contains Nodes f → Leads (HasEdge Edges) (place_in keys p) f → ⊥) ↔ IsDefinite rules base p
  definite_known o p lt =
      let iff = definite_iff (length keys) (length keys + length rules) (place_in keys) (HasEdge Edges) (Depends rules) (models rules (length keys) (place_in keys) t) (number_of numbers) o (omega arith) (Bad rules base) (Contains Nodes) tells p lt in (
        (λ none q l. decided_to rules base q (iff.0 none q l)),
        (λ definite. iff.1 (λ q l. decided_from rules base q (definite q l))),
      )

pub edges_below : (rules : List Rule) (n : ℕ) (number : Pred → ℕ) → Numbers rules n number → All (IsEdgeBelow (n + length rules)) (edges_from number n rules)
edges_below rules n number t = all_if (IsEdgeBelow (n + length rules)) (edges_from number n rules) (λ e h. ends rules n number t e.from e.to h)

pub nodes_within : (rules : List Rule) (base : Bool) (keys : List Pred) (numbers : List ℕ) → Numbers rules (length keys) (place_in keys)
    → All (λ f. f < length keys + length rules) (undecided_nodes base (place_in keys) keys numbers (edges_from (place_in keys) (length keys) rules) rules)
nodes_within rules base keys numbers t =
    all_if (λ f. f < length keys + length rules) (undecided_nodes base (place_in keys) keys numbers (edges_from (place_in keys) (length keys) rules) rules)
    (λ f h. let lt = nodes_below rules base keys numbers t f h in omega arith)
