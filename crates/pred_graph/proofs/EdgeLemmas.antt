-- The edges that rules make, and the dependencies that they stand for.
use Rattle.std.proofs.Common.{◌≡◌, ℕ, zero, suc, ◌+◌, ◌<◌, inl, inr, List, [], ◌∷◌, ◌++◌, length, get_or, map, flat_map, refl, sym, ap, ◌∙◌, subst, arith}
use Rattle.std.specs.List.{Contains}
use Rattle.std.proofs.lemmas.List.Elements.{Contains-append_cases, Contains-append_left, Contains-append_right}
use Rattle.ap_syntax.specs.declared.rules.Rule.{Rule}
use Rattle.ap_syntax.specs.declared.rules.ChoiceElement.{ChoiceElement}
use Rattle.pred_graph.specs.declared.pred.Pred.{Pred}
use Rattle.pred_graph.specs.declared.graph.Edge.{Edge}
use Rattle.pred_graph.specs.Predicates.{pred_of, preds_of, head_preds, item_preds, choice_elements}
use Rattle.pred_graph.specs.Graphs.{edge, HasEdge, head_edge, body_edge, condition_edge, element_edges, rule_edges, edges_from}
use Rattle.pred_graph.proofs.MemberLemmas.{nothing_in, at_head, in_tail, in_map, from_map, in_flat_map, from_flat_map}

-- the rule stands at this place
pub record IsAt (rules : List Rule) (i : ℕ) (rule : Rule) : Type 0 where
  pub within : i < length rules
  pub is : get_or rules i rule ≡ rule

abbrev IsHead : List Rule → ℕ → Rule → Pred → Type 0
IsHead rules i rule p = IsAt rules i rule × Contains (head_preds rule.head) p

abbrev IsBody : List Rule → ℕ → Rule → Pred → Type 0
IsBody rules i rule q = IsAt rules i rule × Contains (flat_map item_preds rule.body) q

pub data Kind (number : Pred → ℕ) (rules : List Rule) (node a b : ℕ) : Type 0 where
  by_head : (i : ℕ) (rule : Rule) (p : Pred) → IsAt rules i rule → Contains (head_preds rule.head) p → number p ≡ a → node + i ≡ b → Kind number rules node a b
  by_body : (i : ℕ) (rule : Rule) (q : Pred) → IsAt rules i rule → Contains (flat_map item_preds rule.body) q → node + i ≡ a → number q ≡ b → Kind number rules node a b
  by_condition : (rule : Rule) (element : ChoiceElement) (q : Pred) → Contains rules rule → Contains (choice_elements rule.head) element → Contains (preds_of element.condition) q → number (pred_of element.atom) ≡ a → number q ≡ b → Kind number rules node a b

at_first : (rule : Rule) (rules : List Rule) → IsAt (rule ∷ rules) 0 rule
at_first rule rules = record { within = omega arith; is = refl }

at_later : (first : Rule) (rules : List Rule) (i : ℕ) (rule : Rule) → IsAt rules i rule → IsAt (first ∷ rules) (suc i) rule
at_later first rules i rule h = record { within = let lt = h.within in omega arith; is = h.is }

kind_later : (number : Pred → ℕ) (first : Rule) (rules : List Rule) (node a b : ℕ) → Kind number rules (node + 1) a b → Kind number (first ∷ rules) node a b
kind_later number first rules node a b (by_head i rule p at has is to) = by_head (suc i) rule p (at_later first rules i rule at) has is (let e : node + suc i ≡ node + 1 + i = omega arith in e ∙ to)
kind_later number first rules node a b (by_body i rule q at has is to) = by_body (suc i) rule q (at_later first rules i rule at) has (let e : node + suc i ≡ node + 1 + i = omega arith in e ∙ is) to
kind_later number first rules node a b (by_condition rule element q r e has is to) = by_condition rule element q (in_tail first rules rule r) e has is to

from_of : (e : Edge) (a b : ℕ) → e ≡ edge a b → e.from ≡ a
from_of e a b h = ap (λ (v : Edge). v.from) h

to_of : (e : Edge) (a b : ℕ) → e ≡ edge a b → e.to ≡ b
to_of e a b h = ap (λ (v : Edge). v.to) h

kind_first : (number : Pred → ℕ) (rule : Rule) (rules : List Rule) (node a b : ℕ) → HasEdge (rule_edges number node rule) a b → Kind number (rule ∷ rules) node a b
kind_first number rule rules node a b h =
    let heads = map (head_edge number node) (head_preds rule.head) in
    let body = map (body_edge number node) (flat_map item_preds rule.body) in
    let conditions = flat_map (element_edges number) (choice_elements rule.head) in
    let here : node + 0 ≡ node = omega arith in
    elim (Contains-append_cases (heads ++ body) conditions (edge a b) h) [
      | inl first ↦ elim (Contains-append_cases heads body (edge a b) first) [
        | inl head ↦
            let r = from_map (head_edge number node) (head_preds rule.head) (edge a b) head in
            by_head 0 rule r.0 (at_first rule rules) r.1 (from_of (head_edge number node r.0) a b r.2) (here ∙ to_of (head_edge number node r.0) a b r.2)
        | inr item ↦
            let r = from_map (body_edge number node) (flat_map item_preds rule.body) (edge a b) item in
            by_body 0 rule r.0 (at_first rule rules) r.1 (here ∙ from_of (body_edge number node r.0) a b r.2) (to_of (body_edge number node r.0) a b r.2)
      ]
      | inr last ↦
          let s = from_flat_map (element_edges number) (choice_elements rule.head) (edge a b) last in
          let r = from_map (condition_edge number (pred_of s.0.atom)) (preds_of s.0.condition) (edge a b) s.2 in
          by_condition rule s.0 r.0 (at_head rule rules) s.1 r.1 (from_of (condition_edge number (pred_of s.0.atom) r.0) a b r.2) (to_of (condition_edge number (pred_of s.0.atom) r.0) a b r.2)
    ]

pub kind_of : (number : Pred → ℕ) (rules : List Rule) (node a b : ℕ) → HasEdge (edges_from number node rules) a b → Kind number rules node a b
kind_of number [] node a b h = absurd (nothing_in (edge a b) h)
kind_of number (rule ∷ rules) node a b h =
    elim (Contains-append_cases (rule_edges number node rule) (edges_from number (node + 1) rules) (edge a b) h) [
      | inl first ↦ kind_first number rule rules node a b first
      | inr later ↦ kind_later number rule rules node a b (kind_of number rules (node + 1) a b later)
    ]

-- ---- the edges are there

edge_at : (number : Pred → ℕ) (rules : List Rule) (node i : ℕ) (rule : Rule) (a b : ℕ) → i < length rules → get_or rules i rule ≡ rule → HasEdge (rule_edges number (node + i) rule) a b → HasEdge (edges_from number node rules) a b
edge_at number [] node i rule a b lt is h = absurd (omega arith)
edge_at number (first ∷ rules) node zero rule a b lt is h =
    let here : node + 0 ≡ node = omega arith in
    Contains-append_left (rule_edges number node first) (edges_from number (node + 1) rules) (edge a b)
    (subst (λ r. HasEdge (rule_edges number node r) a b) (sym is) (subst (λ k. HasEdge (rule_edges number k rule) a b) here h))
edge_at number (first ∷ rules) node (suc i) rule a b lt is h =
    let next : node + suc i ≡ node + 1 + i = omega arith in
    Contains-append_right (rule_edges number node first) (edges_from number (node + 1) rules) (edge a b)
    (edge_at number rules (node + 1) i rule a b (omega arith) is (subst (λ k. HasEdge (rule_edges number k rule) a b) next h))

pub head_there : (number : Pred → ℕ) (rules : List Rule) (node i : ℕ) (rule : Rule) (p : Pred) → IsAt rules i rule → Contains (head_preds rule.head) p → HasEdge (edges_from number node rules) (number p) (node + i)
head_there number rules node i rule p at has =
    edge_at number rules node i rule (number p) (node + i) at.within at.is
    (Contains-append_left (map (head_edge number (node + i)) (head_preds rule.head) ++ map (body_edge number (node + i)) (flat_map item_preds rule.body)) (flat_map (element_edges number) (choice_elements rule.head)) (edge (number p) (node + i))
    (Contains-append_left (map (head_edge number (node + i)) (head_preds rule.head)) (map (body_edge number (node + i)) (flat_map item_preds rule.body)) (edge (number p) (node + i))
    (in_map (head_edge number (node + i)) (head_preds rule.head) p has)))

pub body_there : (number : Pred → ℕ) (rules : List Rule) (node i : ℕ) (rule : Rule) (q : Pred) → IsAt rules i rule → Contains (flat_map item_preds rule.body) q → HasEdge (edges_from number node rules) (node + i) (number q)
body_there number rules node i rule q at has =
    edge_at number rules node i rule (node + i) (number q) at.within at.is
    (Contains-append_left (map (head_edge number (node + i)) (head_preds rule.head) ++ map (body_edge number (node + i)) (flat_map item_preds rule.body)) (flat_map (element_edges number) (choice_elements rule.head)) (edge (node + i) (number q))
    (Contains-append_right (map (head_edge number (node + i)) (head_preds rule.head)) (map (body_edge number (node + i)) (flat_map item_preds rule.body)) (edge (node + i) (number q))
    (in_map (body_edge number (node + i)) (flat_map item_preds rule.body) q has)))

pub condition_there : (number : Pred → ℕ) (rules : List Rule) (node : ℕ) (rule : Rule) (element : ChoiceElement) (q : Pred) → Contains rules rule → Contains (choice_elements rule.head) element → Contains (preds_of element.condition) q → HasEdge (edges_from number node rules) (number (pred_of element.atom)) (number q)
condition_there number rules node rule element q h e has =
    let i = h.0 in
    let p = pred_of element.atom in
    edge_at number rules node i rule (number p) (number q) h.1 h.2
    (Contains-append_right (map (head_edge number (node + i)) (head_preds rule.head) ++ map (body_edge number (node + i)) (flat_map item_preds rule.body)) (flat_map (element_edges number) (choice_elements rule.head)) (edge (number p) (number q))
    (in_flat_map (element_edges number) (choice_elements rule.head) element (edge (number p) (number q)) e
    (in_map (condition_edge number p) (preds_of element.condition) q has)))
