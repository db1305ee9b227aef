-- Places of predicates in the table of those that rules mention.
use Rattle.std.proofs.Common.{◌≡◌, ℕ, ◌<◌, ◌≤◌, ◌⊎◌, inl, inr, Bool, true, false, cond, ltb, List, [], ◌∷◌, ◌++◌, length, get_or, Some, None, refl, sym, ap, ◌∙◌, subst, arith, flat_map}
use Rattle.std.specs.Prelude.{position, not, ◌&&◌, ◌==◌}
use Rattle.std.specs.List.{Contains, list_any, position_or_len}
use Rattle.std.specs.Str.{bytes_eq}
use Rattle.std.proofs.lemmas.Bool.{cases_lt, lt-ltb, eqb-true, eq-eqb}
use Rattle.std.proofs.lemmas.List.Elements.{Contains-append_cases, Contains-append_left, Contains-append_right, Contains-push, Contains-push_cases}
use Rattle.std.proofs.lemmas.List.Sums.{prefix_len-le-length, passes_at_first, fails_before_first}
use Rattle.std.proofs.lemmas.Map.Views.{Contains-from_any}
use Rattle.std.proofs.lemmas.Slice.Eq.{bytes_eq-Decides}
use Rattle.indexmap.specs.IndexSet.{insert_key, insert_all}
use Rattle.ap_syntax.specs.declared.rules.Rule.{Rule}
use Rattle.ap_syntax.specs.declared.rules.ChoiceElement.{ChoiceElement}
use Rattle.pred_graph.specs.declared.pred.Pred.{Pred}
use Rattle.pred_graph.specs.Predicates.{IsMentioned, IsMentionedBy, rule_preds, head_preds, item_preds, preds_of, condition_preds, choice_elements}
use Rattle.pred_graph.specs.Tables.{is_pred, place_in}
use Rattle.pred_graph.proofs.MemberLemmas.{nothing_in, at_head, in_tail, head_or_tail, in_flat_map, from_flat_map, any_of, from_any}

-- ---- equal predicates

pub both : (a b : Bool) → a && b ≡ true → (a ≡ true) × (b ≡ true)
both true b h = (refl, h)
both false b h = cc

pub same_pred : (p q : Pred) → is_pred p q ≡ true → p ≡ q
same_pred p q h =
    let parts = both (bytes_eq p.name q.name) (p.arity == q.arity) h in
    let make : List ℕ → ℕ → Pred = λ n a. record { name = n; arity = a } in
    ap (λ n. make n p.arity) ((bytes_eq-Decides p.name q.name).0 parts.0) ∙ ap (λ a. make q.name a) (eqb-true p.arity q.arity parts.1)

pub pred_itself : (p : Pred) → is_pred p p ≡ true
pred_itself p =
    let names : bytes_eq p.name p.name ≡ true = (bytes_eq-Decides p.name p.name).1 refl in
    let arities : (p.arity == p.arity) ≡ true = eq-eqb p.arity p.arity refl in
    ap (λ b. b && (p.arity == p.arity)) names ∙ arities

-- ---- places

chosen : (b : Bool) (k : ℕ) → cond b (Some k) None ≡ None → b ≡ true → ⊥
chosen true k h e = cc
chosen false k h e = cc

pub none_place : {X : Type 0} (p : X → Bool) (xs : List X) → position p xs ≡ None → position_or_len p xs ≡ length xs
none_place p xs h =
    let at : position_or_len p xs ≤ length xs = prefix_len-le-length (λ x. not (p x)) xs in
    elim (cases_lt (position_or_len p xs) (length xs)) [
      | inl lt ↦ absurd (chosen (ltb (position_or_len p xs) (length xs)) (position_or_len p xs) h (lt-ltb (position_or_len p xs) (length xs) lt))
      | inr le ↦ omega arith
    ]

pub place_within : (keys : List Pred) (p : Pred) → Contains keys p → place_in keys p < length keys
place_within keys p h =
    elim (cases_lt (place_in keys p) (length keys)) [
      | inl lt ↦ lt
      | inr le ↦
          let before : h.0 < place_in keys p = let k = h.1 in omega arith in
          let e = fails_before_first (is_pred p) keys h.0 p before in
          let e' : is_pred p p ≡ false = subst (λ q. is_pred p q ≡ false) h.2 e in
          let t = pred_itself p in absurd (let clash : true ≡ false = sym t ∙ e' in cc)
    ]

pub place_holds : (keys : List Pred) (p : Pred) → place_in keys p < length keys → get_or keys (place_in keys p) p ≡ p
place_holds keys p lt = sym (same_pred p (get_or keys (place_in keys p) p) (passes_at_first (is_pred p) keys p lt))

pub in_keys : (keys : List Pred) (p : Pred) → place_in keys p < length keys → Contains keys p
in_keys keys p lt = (place_in keys p, lt, place_holds keys p lt)

-- ---- the keys of a table

insert_by : (b : Bool) (keys : List Pred) (k p : Pred) → list_any (is_pred k) keys ≡ b → Contains (cond b keys (keys ++ k ∷ [])) p → Contains keys p ⊎ (k ≡ p)
insert_by true keys k p e h = inl h
insert_by false keys k p e h = Contains-push_cases keys k p h

pub from_insert_key : (keys : List Pred) (k p : Pred) → Contains (insert_key is_pred keys k) p → Contains keys p ⊎ (k ≡ p)
from_insert_key keys k p h = insert_by (list_any (is_pred k) keys) keys k p refl h

kept_by : (b : Bool) (keys : List Pred) (k p : Pred) → Contains keys p → Contains (cond b keys (keys ++ k ∷ [])) p
kept_by true keys k p h = h
kept_by false keys k p h = Contains-append_left keys (k ∷ []) p h

there_by : (b : Bool) (keys : List Pred) (k : Pred) → list_any (is_pred k) keys ≡ b → Contains (cond b keys (keys ++ k ∷ [])) k
there_by true keys k e = Contains-from_any same_pred k keys e
there_by false keys k e = Contains-push keys k

pub from_insert_all : (keys preds : List Pred) (p : Pred) → Contains (insert_all is_pred keys preds) p → Contains keys p ⊎ Contains preds p
from_insert_all keys [] p h = inl h
from_insert_all keys (k ∷ preds) p h =
    elim (from_insert_all (insert_key is_pred keys k) preds p h) [
      | inl old ↦ elim (from_insert_key keys k p old) [ inl before ↦ inl before | inr e ↦ inr (subst (λ q. Contains (k ∷ preds) q) e (at_head k preds)) ]
      | inr later ↦ inr (in_tail k preds p later)
    ]

pub kept_all : (keys preds : List Pred) (p : Pred) → Contains keys p → Contains (insert_all is_pred keys preds) p
kept_all keys [] p h = h
kept_all keys (k ∷ preds) p h = kept_all (insert_key is_pred keys k) preds p (kept_by (list_any (is_pred k) keys) keys k p h)

pub in_insert_all : (keys preds : List Pred) (p : Pred) → Contains preds p → Contains (insert_all is_pred keys preds) p
in_insert_all keys [] p h = absurd (nothing_in p h)
in_insert_all keys (k ∷ preds) p h =
    elim (head_or_tail k preds p h) [
      | inl e ↦ kept_all (insert_key is_pred keys k) preds p (subst (λ q. Contains (insert_key is_pred keys k) q) e (there_by (list_any (is_pred k) keys) keys k refl))
      | inr later ↦ in_insert_all (insert_key is_pred keys k) preds p later
    ]

-- ---- the predicates that rules mention

pub mentioned_by : (p : Pred) (rule : Rule) → Contains (rule_preds rule) p → IsMentionedBy p rule
mentioned_by p rule h =
    let heads = head_preds rule.head in
    let body = flat_map item_preds rule.body in
    let conditions = flat_map condition_preds (choice_elements rule.head) in
    elim (Contains-append_cases (heads ++ body) conditions p h) [
      | inl first ↦ elim (Contains-append_cases heads body p first) [ inl head ↦ inl head | inr item ↦ inr (inl item) ]
      | inr last ↦
          let r = from_flat_map condition_preds (choice_elements rule.head) p last in
          inr (inr (any_of (λ (element : ChoiceElement). Contains (preds_of element.condition) p) (choice_elements rule.head) r.0 r.1 r.2))
    ]

pub in_rule_preds : (p : Pred) (rule : Rule) → IsMentionedBy p rule → Contains (rule_preds rule) p
in_rule_preds p rule h =
    let heads = head_preds rule.head in
    let body = flat_map item_preds rule.body in
    let conditions = flat_map condition_preds (choice_elements rule.head) in
    elim h [
      | inl head ↦ Contains-append_left (heads ++ body) conditions p (Contains-append_left heads body p head)
      | inr more ↦ elim more [
        | inl item ↦ Contains-append_left (heads ++ body) conditions p (Contains-append_right heads body p item)
        | inr some ↦
            let r = from_any (λ (element : ChoiceElement). Contains (preds_of element.condition) p) (choice_elements rule.head) some in
            Contains-append_right (heads ++ body) conditions p (in_flat_map condition_preds (choice_elements rule.head) r.0 p r.1 r.2)
      ]
    ]

pub key_mentioned : (rules : List Rule) (p : Pred) → Contains (insert_all is_pred [] (flat_map rule_preds rules)) p → IsMentioned rules p
key_mentioned rules p h =
    elim (from_insert_all [] (flat_map rule_preds rules) p h) [
      | inl none ↦ absurd (nothing_in p none)
      | inr some ↦ let r = from_flat_map rule_preds rules p some in any_of (IsMentionedBy p) rules r.0 r.1 (mentioned_by p r.0 r.2)
    ]

pub mentioned_key : (rules : List Rule) (p : Pred) → IsMentioned rules p → Contains (insert_all is_pred [] (flat_map rule_preds rules)) p
mentioned_key rules p h =
    let r = from_any (IsMentionedBy p) rules h in
    in_insert_all [] (flat_map rule_preds rules) p (in_flat_map rule_preds rules r.0 p r.1 (in_rule_preds p r.0 r.2))
