-- What is computed of rules: the table of their predicates, the numbers of the graph's components, and which nodes lead to one
-- that is not decided.
use Rattle.std.specs.Prelude.{◌≡◌, ℕ, ◌+◌, Bool, ◌&&◌, ◌==◌, nat_lt, if◌then◌else◌, List, [], ◌∷◌, ◌++◌, map, flat_map, length, Contains, IsTrue, ◌↔◌}
use Rattle.ap_syntax.specs.declared.rules.Rule.{Rule}
use Rattle.definite.specs.declared.Rule.{Rule as Derivation}
use Rattle.definite.specs.Rules.{marked}
use Rattle.indexmap.specs.IndexSet.{insert_all}
use Rattle.pred_graph.specs.declared.pred.Pred.{Pred}
use Rattle.pred_graph.specs.declared.graph.Edge.{Edge}
use Rattle.pred_graph.specs.Walks.{Leads}
use Rattle.pred_graph.specs.Predicates.{choice_preds, rule_preds}
use Rattle.pred_graph.specs.Components.{is_open_name}
use Rattle.pred_graph.specs.Graphs.{HasEdge, number_of, edges_from, AreNumbers}
use Rattle.pred_graph.specs.Tables.{is_pred, place_in}
use Rattle.pred_graph.specs.Known.{Known}

-- ---- nodes of predicates that are not decided

-- the end from which an edge leads, if this is a predicate and the edge stays in its component
abbrev pub inner_nodes : ℕ → List ℕ → Edge → List ℕ
inner_nodes preds numbers e = if nat_lt e.from preds && (number_of numbers e.from == number_of numbers e.to) then e.from ∷ [] else []

abbrev pub choice_nodes : (Pred → ℕ) → Rule → List ℕ
choice_nodes number rule = map number (choice_preds rule.head)

abbrev pub open_nodes : (Pred → ℕ) → Pred → List ℕ
open_nodes number p = if is_open_name p.name then number p ∷ [] else []

abbrev pub open_nodes_of : Bool → (Pred → ℕ) → List Pred → List ℕ
open_nodes_of base number keys = if base then [] else flat_map (open_nodes number) keys

abbrev pub undecided_nodes : Bool → (Pred → ℕ) → List Pred → List ℕ → List Edge → List Rule → List ℕ
undecided_nodes base number keys numbers edges rules =
    flat_map (inner_nodes (length keys) numbers) edges ++ flat_map (choice_nodes number) rules ++ open_nodes_of base number keys

-- ---- nodes that lead to one of these

-- the rules by which a mark goes against the edges
abbrev pub edge_rule : Edge → Derivation
edge_rule e = record { body = e.to ∷ []; heads = e.from ∷ [] }

abbrev pub fact_rule : ℕ → Derivation
fact_rule node = record { body = []; heads = node ∷ [] }

-- the marks are those of the nodes that lead to one of these
abbrev pub AreLeading : List Edge → List ℕ → List Bool → Type 0
AreLeading edges nodes marks = (a : ℕ) → IsTrue (marked marks a) ↔ ((f : ℕ) × Contains nodes f × Leads (HasEdge edges) a f)

-- these are found by the graph of the rules
pub record IsJudged (rules : List Rule) (safe : Known) : Type 0 where
  pub table : safe.preds ≡ insert_all is_pred [] (flat_map rule_preds rules)
  pub numbers : AreNumbers (length safe.preds + length rules) (edges_from (place_in safe.preds) (length safe.preds) rules) safe.numbers
  pub marks : AreLeading (edges_from (place_in safe.preds) (length safe.preds) rules)
      (undecided_nodes safe.base (place_in safe.preds) safe.preds safe.numbers (edges_from (place_in safe.preds) (length safe.preds) rules) rules) safe.indefinite
