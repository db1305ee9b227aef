-- The graph of the predicates. Its nodes are numbers: the places of the predicates, and behind them one node for each rule. An
-- edge leads from each head of a rule to the rule's node, from there to each predicate of the body, and from the atom of a
-- choice to each predicate of its own condition.
use Rattle.std.specs.Prelude.{◌≡◌, ◌≢◌, ℕ, ◌+◌, ◌<◌, ◌↔◌, List, [], ◌∷◌, ◌++◌, map, flat_map, length, Contains}
pub use Rattle.components.specs.Graphs.{successors_of, number_of}
use Rattle.pred_graph.specs.Walks.{Leads}
use Rattle.ap_syntax.specs.declared.rules.Rule.{Rule}
use Rattle.ap_syntax.specs.declared.rules.ChoiceElement.{ChoiceElement}
use Rattle.pred_graph.specs.declared.pred.Pred.{Pred}
use Rattle.pred_graph.specs.declared.graph.Edge.{Edge}
use Rattle.pred_graph.specs.Predicates.{pred_of, preds_of, head_preds, item_preds, choice_elements}

abbrev pub edge : ℕ → ℕ → Edge
edge a b = record { from = a; to = b }

abbrev pub HasEdge : List Edge → ℕ → ℕ → Type 0
HasEdge edges a b = Contains edges (edge a b)

-- both ends of the edge are below this number
abbrev pub IsEdgeBelow : ℕ → Edge → Type 0
IsEdgeBelow nodes e = (e.from < nodes) × (e.to < nodes)

-- ---- the edges that rules make, where predicates have these numbers

module _ (number : Pred → ℕ) where
  abbrev pub head_edge : ℕ → Pred → Edge
  head_edge node p = edge (number p) node

  abbrev pub body_edge : ℕ → Pred → Edge
  body_edge node q = edge node (number q)

  abbrev pub condition_edge : Pred → Pred → Edge
  condition_edge p q = edge (number p) (number q)

  abbrev pub element_edges : ChoiceElement → List Edge
  element_edges element = map (condition_edge (pred_of element.atom)) (preds_of element.condition)

  -- those of a rule that has this node
  abbrev pub rule_edges : ℕ → Rule → List Edge
  rule_edges node rule = map (head_edge node) (head_preds rule.head) ++ map (body_edge node) (flat_map item_preds rule.body)
      ++ flat_map element_edges (choice_elements rule.head)

  -- those of rules whose nodes follow one another, from this one on
  abbrev pub edges_from : ℕ → List Rule → List Edge
  edges_from node [] = []
  edges_from node (rule ∷ rules) = rule_edges node rule ++ edges_from (node + 1) rules

-- ---- the same graph by the successors of each node

-- there is a list of successors for each node, and they are those of the edges
pub record AreRows (nodes : ℕ) (edges : List Edge) (rows : List (List ℕ)) : Type 0 where
  pub size : length rows ≡ nodes
  pub into : (a b : ℕ) → HasEdge edges a b → Contains (successors_of rows a) b
  pub out : (a b : ℕ) → Contains (successors_of rows a) b → HasEdge edges a b

-- the successor of this edge stands behind the others
pub record IsSuccessorAdded (before after : List (List ℕ)) (e : Edge) : Type 0 where
  pub here : successors_of after e.from ≡ successors_of before e.from ++ e.to ∷ []
  pub others : (a : ℕ) → a ≢ e.from → successors_of after a ≡ successors_of before a
  pub size : length after ≡ length before

-- ---- numbers of components

-- nodes have one number where each leads to the other, and a node that is led to without a way back has a lower one
pub record Orders (nodes : ℕ) (Next : ℕ → ℕ → Type 0) (number : ℕ → ℕ) : Type 0 where
  pub same : (a b : ℕ) → a < nodes → b < nodes → (number a ≡ number b) ↔ (Leads Next a b × Leads Next b a)
  pub lower : (a b : ℕ) → a < nodes → b < nodes → Leads Next a b → (Leads Next b a → ⊥) → number b < number a
  pub above : (a : ℕ) → a < nodes → 0 < number a

abbrev pub AreNumbers : ℕ → List Edge → List ℕ → Type 0
AreNumbers nodes edges numbers = Orders nodes (HasEdge edges) (number_of numbers)
