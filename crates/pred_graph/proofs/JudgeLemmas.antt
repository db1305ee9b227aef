-- What is computed of rules tells their components and their definite predicates.
use Rattle.std.proofs.Common.{◌≡◌, ℕ, ◌+◌, ◌<◌, ◌≤◌, inl, inr, ◌↔◌, Bool, true, false, cond, ◌||◌, List, [], ◌∷◌, length, get_or, flat_map, refl, sym, ap, ◌∙◌, subst, arith}
use Rattle.std.specs.Prelude.{IsTrue, not}
use Rattle.std.specs.List.{Contains, All}
use Rattle.std.proofs.lemmas.Bool.{cases_lt, lt-ltb, le-ltb}
use Rattle.std.proofs.lemmas.List.{get_or_default}
use Rattle.indexmap.specs.IndexSet.{insert_all}
use Rattle.definite.specs.Rules.{marked}
use Rattle.ap_syntax.specs.declared.rules.Rule.{Rule}
use Rattle.pred_graph.specs.declared.pred.Pred.{Pred}
use Rattle.pred_graph.specs.declared.graph.Edge.{Edge}
use Rattle.pred_graph.specs.Walks.{IsWalk}
use Rattle.pred_graph.specs.Predicates.{Depends, Reaches, rule_preds, choice_preds}
use Rattle.pred_graph.specs.Tables.{is_pred, place_in}
use Rattle.pred_graph.specs.Components.{is_open_name, IsOpen, AreMutual, IsLower, IsDecided, IsDefinite, IsOrderOf}
use Rattle.pred_graph.specs.Graphs.{HasEdge, IsEdgeBelow, edges_from, AreNumbers, number_of}
use Rattle.pred_graph.specs.Known.{Known, component_in, definite_in, IsSafe}
use Rattle.pred_graph.specs.Judged.{undecided_nodes, AreLeading, IsJudged}
use Rattle.pred_graph.proofs.MemberLemmas.{all_if}
use Rattle.pred_graph.proofs.PlaceLemmas.{place_within, place_holds, in_keys, key_mentioned, mentioned_key}
use Rattle.pred_graph.proofs.GraphLemmas.{mutual_iff, lower_below, walk_within}
use Rattle.pred_graph.proofs.DependLemmas.{Numbers, models, head_mentioned}
use Rattle.pred_graph.proofs.TellLemmas.{definite_known, choice_in_head, edges_below, nodes_within}

-- ---- places as numbers

pub numbers_of : (rules : List Rule) (keys : List Pred) → keys ≡ insert_all is_pred [] (flat_map rule_preds rules) → Numbers rules (length keys) (place_in keys)
numbers_of rules keys table = record {
  same = λ p q e lt.
      let lt' : place_in keys q < length keys = subst (λ v. v < length keys) e lt in
      sym (place_holds keys p lt) ∙ (get_or_default keys (place_in keys p) p q lt ∙ (ap (λ v. get_or keys v q) e ∙ place_holds keys q lt'));
  known = λ p h. place_within keys p (subst (λ ks. Contains ks p) (sym table) (mentioned_key rules p h));
  only = λ p lt. key_mentioned rules p (subst (λ ks. Contains ks p) table (in_keys keys p lt));
}

-- ---- predicates that no rule mentions

depends_mentioned : (rules : List Rule) (p x : Pred) → Depends rules p x → (keys : List Pred) → Numbers rules (length keys) (place_in keys) → place_in keys p < length keys
depends_mentioned rules p x d keys t = ((models rules (length keys) (place_in keys) t).back p x d).0

stays : (rules : List Rule) (keys : List Pred) → Numbers rules (length keys) (place_in keys) → (p : Pred) → length keys ≤ place_in keys p → (w : List Pred) (q : Pred) → IsWalk (Depends rules) p w q → p ≡ q
stays rules keys t p le [] q e = e
stays rules keys t p le (x ∷ w) q e = let lt = depends_mentioned rules p x e.0 keys t in absurd (omega arith)

unknown_decided : (rules : List Rule) (base : Bool) (keys : List Pred) → Numbers rules (length keys) (place_in keys) → (p : Pred) → length keys ≤ place_in keys p → (IsOpen base p → ⊥) → IsDefinite rules base p
unknown_decided rules base keys t p le closed q l =
    subst (IsDecided rules base) (stays rules keys t p le l.0 q l.1) (record {
      no_choice = all_if (λ (rule : Rule). Contains (choice_preds rule.head) p → ⊥) rules (λ rule h has.
          let lt = t.known p (head_mentioned rules rule p h (choice_in_head rule.head p has)) in absurd (omega arith));
      no_loop = λ x y mx my d.
          let same = stays rules keys t p le mx.0.0 x mx.0.1 in
          let lt = depends_mentioned rules x y d keys t in
          let le' : length keys ≤ place_in keys x = subst (λ v. length keys ≤ place_in keys v) same le in
          absurd (omega arith);
      not_open = closed;
    })

denied : (b : Bool) → IsTrue (not b) → IsTrue b → ⊥
denied true h k = let e : false ≡ true = h in cc
denied false h k = let e : false ≡ true = k in cc

open_test : (base : Bool) (p : Pred) → IsTrue (base || not (is_open_name p.name)) → IsOpen base p → ⊥
open_test true p h o = o
open_test false p h o = denied (is_open_name p.name) h o

not_true : (b : Bool) → (IsTrue b → ⊥) → IsTrue (not b)
not_true true none = absurd (none refl)
not_true false none = refl

test_open : (base : Bool) (p : Pred) → (IsOpen base p → ⊥) → IsTrue (base || not (is_open_name p.name))
test_open true p none = refl
test_open false p none = not_true (is_open_name p.name) none

-- ---- what is known of rules

module _ (rules : List Rule) (safe : Known) (j : IsJudged rules safe) where
  abbrev Keys : List Pred
  Keys = safe.preds

  t : Numbers rules (length Keys) (place_in Keys)
  t = numbers_of rules Keys j.table

  known_component : (p : Pred) → place_in Keys p < length Keys → component_in safe p ≡ number_of safe.numbers (place_in Keys p)
  known_component p lt = ap (λ b. cond b (number_of safe.numbers (place_in Keys p)) 0) (lt-ltb (place_in Keys p) (length Keys) lt)

  unknown_component : (p : Pred) → length Keys ≤ place_in Keys p → component_in safe p ≡ 0
  unknown_component p le = ap (λ b. cond b (number_of safe.numbers (place_in Keys p)) 0) (le-ltb (place_in Keys p) (length Keys) le)

  pub mutual_numbers : (p q : Pred) → place_in Keys p < length Keys → place_in Keys q < length Keys → (number_of safe.numbers (place_in Keys p) ≡ number_of safe.numbers (place_in Keys q)) ↔ AreMutual rules p q
  mutual_numbers p q hp hq =
      mutual_iff (length Keys) (length Keys + length rules) (place_in Keys) (HasEdge (edges_from (place_in Keys) (length Keys) rules)) (Depends rules) (models rules (length Keys) (place_in Keys) t) (number_of safe.numbers) j.numbers (omega arith) p q hp hq

  lower_known : (p q : Pred) (w : List Pred) → IsWalk (Depends rules) p w q → (Reaches rules q p → ⊥) → place_in Keys p < length Keys
  lower_known p q [] e none = absurd (none ([], sym e))
  lower_known p q (x ∷ w) e none = depends_mentioned rules p x e.0 Keys t

  lower_component : (p q : Pred) → IsLower rules q p → component_in safe q < component_in safe p
  lower_component p q l =
      let m = models rules (length Keys) (place_in Keys) t in
      let hp = lower_known p q l.0.0 l.0.1 l.1 in
      let hq = walk_within (length Keys) (length Keys + length rules) (place_in Keys) (HasEdge (edges_from (place_in Keys) (length Keys) rules)) (Depends rules) m (number_of safe.numbers) j.numbers (omega arith) p q l.0.0 hp l.0.1 in
      let lt = lower_below (length Keys) (length Keys + length rules) (place_in Keys) (HasEdge (edges_from (place_in Keys) (length Keys) rules)) (Depends rules) m (number_of safe.numbers) j.numbers (omega arith) p q hp hq l.0 l.1 in
      subst (λ v. v < component_in safe p) (sym (known_component q hq)) (subst (λ v. number_of safe.numbers (place_in Keys q) < v) (sym (known_component p hp)) lt)

  pub order : IsOrderOf rules (component_in safe)
  order = record {
    same = λ p q mp mq.
        let hp = t.known p mp in
        let hq = t.known q mq in
        let iff = mutual_numbers p q hp hq in (
          (λ e. iff.0 (sym (known_component p hp) ∙ (e ∙ known_component q hq))),
          (λ m. known_component p hp ∙ (iff.1 m ∙ sym (known_component q hq))),
        );
    lower = lower_component;
    mentioned = λ p mp.
        let hp = t.known p mp in
        subst (λ v. 0 < v) (sym (known_component p hp)) (j.numbers.above (place_in Keys p) (omega arith));
    others = λ p none. elim (cases_lt (place_in Keys p) (length Keys)) [
      | inl lt ↦ absurd (none (t.only p lt))
      | inr le ↦ unknown_component p le
    ];
  }

  known_definite : (p : Pred) → place_in Keys p < length Keys → definite_in safe p ≡ not (marked safe.indefinite (place_in Keys p))
  known_definite p lt = ap (λ b. cond b (not (marked safe.indefinite (place_in Keys p))) (safe.base || not (is_open_name p.name))) (lt-ltb (place_in Keys p) (length Keys) lt)

  unknown_definite : (p : Pred) → length Keys ≤ place_in Keys p → definite_in safe p ≡ (safe.base || not (is_open_name p.name))
  unknown_definite p le = ap (λ b. cond b (not (marked safe.indefinite (place_in Keys p))) (safe.base || not (is_open_name p.name))) (le-ltb (place_in Keys p) (length Keys) le)

  definite_known_iff : (p : Pred) → place_in Keys p < length Keys → IsTrue (definite_in safe p) ↔ IsDefinite rules safe.base p
  definite_known_iff p lt =
      let iff = definite_known rules safe.base Keys safe.numbers t j.numbers p lt in
      let mark = j.marks (place_in Keys p) in (
        (λ h. iff.0 (λ f has l. denied (marked safe.indefinite (place_in Keys p)) (sym (known_definite p lt) ∙ h) (mark.1 (f, has, l)))),
        (λ d. known_definite p lt ∙ not_true (marked safe.indefinite (place_in Keys p)) (λ h. let s = mark.0 h in iff.1 d s.0 s.1 s.2)),
      )

  definite_unknown_iff : (p : Pred) → length Keys ≤ place_in Keys p → IsTrue (definite_in safe p) ↔ IsDefinite rules safe.base p
  definite_unknown_iff p le = (
    (λ h. unknown_decided rules safe.base Keys t p le (open_test safe.base p (sym (unknown_definite p le) ∙ h))),
    (λ d. unknown_definite p le ∙ test_open safe.base p ((d p ([], refl)).not_open)),
  )

  pub safe_of : IsSafe rules safe
  safe_of = record {
    order = order;
    definite = λ p. elim (cases_lt (place_in Keys p) (length Keys)) [
      | inl lt ↦ definite_known_iff p lt
      | inr le ↦ definite_unknown_iff p le
    ];
  }

-- ---- what `judge` hands on

pub edges_in : (rules : List Rule) (keys : List Pred) (size : ℕ) (edges list : List Edge) → keys ≡ insert_all is_pred [] (flat_map rule_preds rules) → edges ≡ edges_from (place_in keys) (length keys) rules
    → list ≡ edges → size ≡ length keys + length rules → All (IsEdgeBelow size) list
edges_in rules keys size edges list table e l s =
    subst (λ n. All (IsEdgeBelow n) list) (sym s) (subst (λ es. All (IsEdgeBelow (length keys + length rules)) es) (sym (l ∙ e)) (edges_below rules (length keys) (place_in keys) (numbers_of rules keys table)))

pub nodes_in : (rules : List Rule) (base : Bool) (keys : List Pred) (size : ℕ) (edges list : List Edge) (numbers nodes node_list : List ℕ) → keys ≡ insert_all is_pred [] (flat_map rule_preds rules)
    → edges ≡ edges_from (place_in keys) (length keys) rules → list ≡ edges → size ≡ length keys + length rules
    → nodes ≡ undecided_nodes base (place_in keys) keys numbers list rules → node_list ≡ nodes → All (λ f. f < size) node_list
nodes_in rules base keys size edges list numbers nodes node_list table e l s n m =
    let all : nodes ≡ undecided_nodes base (place_in keys) keys numbers (edges_from (place_in keys) (length keys) rules) rules = n ∙ ap (λ es. undecided_nodes base (place_in keys) keys numbers es rules) (l ∙ e) in
    subst (λ k. All (λ f. f < k) node_list) (sym s) (subst (λ fs. All (λ f. f < length keys + length rules) fs) (sym (m ∙ all)) (nodes_within rules base keys numbers (numbers_of rules keys table)))

pub judged_of : (rules : List Rule) (safe : Known) (size : ℕ) (edges list list' : List Edge) (numbers nodes node_list : List ℕ)
    → safe.preds ≡ insert_all is_pred [] (flat_map rule_preds rules)
    → edges ≡ edges_from (place_in safe.preds) (length safe.preds) rules → list ≡ edges → list' ≡ edges → size ≡ length safe.preds + length rules
    → AreNumbers size list safe.numbers → numbers ≡ safe.numbers → nodes ≡ undecided_nodes safe.base (place_in safe.preds) safe.preds numbers list' rules → node_list ≡ nodes
    → AreLeading list' node_list safe.indefinite → IsSafe rules safe
judged_of rules safe size edges list list' numbers nodes node_list table e l l' s o same n m marks =
    let graph : List Edge = edges_from (place_in safe.preds) (length safe.preds) rules in
    let all : node_list ≡ undecided_nodes safe.base (place_in safe.preds) safe.preds safe.numbers graph rules =
    m ∙ (n ∙ (ap (λ ns. undecided_nodes safe.base (place_in safe.preds) safe.preds ns list' rules) same ∙ ap (λ es. undecided_nodes safe.base (place_in safe.preds) safe.preds safe.numbers es rules) (l' ∙ e))) in
    safe_of rules safe (record {
      table = table;
      numbers = subst (λ k. AreNumbers k graph safe.numbers) s (subst (λ es. AreNumbers size es safe.numbers) (l ∙ e) o);
      marks = subst (λ es. AreLeading es (undecided_nodes safe.base (place_in safe.preds) safe.preds safe.numbers graph rules) safe.indefinite) (l' ∙ e)
          (subst (λ ns. AreLeading list' ns safe.indefinite) all marks);
    })
