-- The graph of rules has the walks of their dependencies.
use Rattle.std.proofs.Common.{◌≡◌, ℕ, ◌+◌, ◌<◌, ◌≤◌, ◌⊎◌, inl, inr, List, length, get_or, flat_map, refl, sym, ap, ◌∙◌, subst, arith}
use Rattle.std.specs.List.{Contains}
use Rattle.std.proofs.lemmas.List.{get_or_default}
use Rattle.ap_syntax.specs.declared.rules.Rule.{Rule}
use Rattle.ap_syntax.specs.declared.rules.ChoiceElement.{ChoiceElement}
use Rattle.ap_syntax.specs.declared.rules.HeadForm.{HeadForm}
use Rattle.ap_syntax.specs.declared.rules.HeadForm.TheVariants.{One, Choice, Nothing}
use Rattle.pred_graph.specs.declared.pred.Pred.{Pred}
use Rattle.pred_graph.specs.Predicates.{pred_of, preds_of, head_preds, item_preds, choice_elements, element_pred, Depends, DependsBy, IsMentioned, IsMentionedBy}
use Rattle.pred_graph.specs.Graphs.{HasEdge, edges_from}
use Rattle.pred_graph.proofs.MemberLemmas.{nothing_in, any_of, from_any, in_map}
use Rattle.pred_graph.proofs.WalkLemmas.{Models}
use Rattle.pred_graph.proofs.EdgeLemmas.{IsAt, Kind, kind_of, head_there, body_there, condition_there}
use Rattle.pred_graph.proofs.EdgeLemmas.Kind.{by_head, by_body, by_condition}

-- the predicates that rules mention have the numbers below n, each its own
pub record Numbers (rules : List Rule) (n : ℕ) (number : Pred → ℕ) : Type 0 where
  pub same : (p q : Pred) → number p ≡ number q → number p < n → p ≡ q
  pub known : (p : Pred) → IsMentioned rules p → number p < n
  pub only : (p : Pred) → number p < n → IsMentioned rules p

pub same_rule : (rules : List Rule) (i j : ℕ) (r s : Rule) → i ≡ j → IsAt rules i r → IsAt rules j s → r ≡ s
same_rule rules i j r s e h k =
    sym h.is ∙ (get_or_default rules i r s h.within ∙ (ap (λ v. get_or rules v s) e ∙ k.is))

-- ---- which predicates are mentioned

pub at_in : (rules : List Rule) (i : ℕ) (rule : Rule) → IsAt rules i rule → Contains rules rule
at_in rules i rule h = (i, h.within, h.is)

pub head_mentioned : (rules : List Rule) (rule : Rule) (p : Pred) → Contains rules rule → Contains (head_preds rule.head) p → IsMentioned rules p
head_mentioned rules rule p h has = any_of (IsMentionedBy p) rules rule h (inl has)

pub body_mentioned : (rules : List Rule) (rule : Rule) (p : Pred) → Contains rules rule → Contains (flat_map item_preds rule.body) p → IsMentioned rules p
body_mentioned rules rule p h has = any_of (IsMentionedBy p) rules rule h (inr (inl has))

pub condition_mentioned : (rules : List Rule) (rule : Rule) (element : ChoiceElement) (p : Pred) → Contains rules rule → Contains (choice_elements rule.head) element → Contains (preds_of element.condition) p → IsMentioned rules p
condition_mentioned rules rule element p h e has =
    any_of (IsMentionedBy p) rules rule h (inr (inr (any_of (λ (v : ChoiceElement). Contains (preds_of v.condition) p) (choice_elements rule.head) element e has)))

element_in : (head : HeadForm) (element : ChoiceElement) → Contains (choice_elements head) element → Contains (head_preds head) (pred_of element.atom)
element_in (One atom) element h = absurd (nothing_in element h)
element_in (Choice left elements right) element h = in_map element_pred elements element h
element_in Nothing element h = absurd (nothing_in element h)

element_in_head : (rule : Rule) (element : ChoiceElement) → Contains (choice_elements rule.head) element → Contains (head_preds rule.head) (pred_of element.atom)
element_in_head rule element h = element_in (rule.head) element h

pub atom_mentioned : (rules : List Rule) (rule : Rule) (element : ChoiceElement) → Contains rules rule → Contains (choice_elements rule.head) element → IsMentioned rules (pred_of element.atom)
atom_mentioned rules rule element h e = head_mentioned rules rule (pred_of element.atom) h (element_in_head rule element e)

depends_head : (rule : Rule) (p q : Pred) → Contains (head_preds rule.head) p → Contains (flat_map item_preds rule.body) q → DependsBy p q rule
depends_head rule p q hp hq = inl (hp, hq)

depends_condition : (rule : Rule) (element : ChoiceElement) (q : Pred) → Contains (choice_elements rule.head) element → Contains (preds_of element.condition) q → DependsBy (pred_of element.atom) q rule
depends_condition rule element q e has =
    inr (any_of (λ (v : ChoiceElement). (pred_of v.atom ≡ pred_of element.atom) × Contains (preds_of v.condition) q) (choice_elements rule.head) element e (refl, has))

module _ (rules : List Rule) (n : ℕ) (number : Pred → ℕ) (t : Numbers rules n number) where
  abbrev pub Next : ℕ → ℕ → Type 0
  Next a b = HasEdge (edges_from number n rules) a b

  -- ---- ends of edges

  kind_ends : (a b : ℕ) → Kind number rules n a b → (a < n + length rules) × (b < n + length rules)
  kind_ends a b (by_head i rule p at has is to) =
      let k = t.known p (head_mentioned rules rule p (at_in rules i rule at) has) in let lt = at.within in (omega arith, omega arith)
  kind_ends a b (by_body i rule q at has is to) =
      let k = t.known q (body_mentioned rules rule q (at_in rules i rule at) has) in let lt = at.within in (omega arith, omega arith)
  kind_ends a b (by_condition rule element q r e has is to) =
      let k = t.known q (condition_mentioned rules rule element q r e has) in
      let j = t.known (pred_of element.atom) (atom_mentioned rules rule element r e) in (omega arith, omega arith)

  pub ends : (a b : ℕ) → Next a b → (a < n + length rules) × (b < n + length rules)
  ends a b h = kind_ends a b (kind_of number rules n a b h)

  -- ---- dependencies

  direct_kind : (p : Pred) (c : ℕ) → number p < n → Kind number rules n (number p) c → c < n → (x : Pred) × (number x ≡ c) × Depends rules p x
  direct_kind p c hp (by_head i rule q at has is to) lt = absurd (omega arith)
  direct_kind p c hp (by_body i rule q at has is to) lt = absurd (omega arith)
  direct_kind p c hp (by_condition rule element q r e has is to) lt =
      let same = t.same p (pred_of element.atom) (sym is) hp in
      (q, to, any_of (DependsBy p q) rules rule r (subst (λ v. DependsBy v q rule) (sym same) (depends_condition rule element q e has)))

  pub into_rule : (a r : ℕ) → n ≤ r → Kind number rules n a r → (i : ℕ) × (rule : Rule) × (h : Pred) × IsAt rules i rule × Contains (head_preds rule.head) h × (number h ≡ a) × (n + i ≡ r)
  into_rule a r le (by_head i rule h at has is to) = (i, rule, h, at, has, is, to)
  into_rule a r le (by_body i rule q at has is to) =
      let k = t.known q (body_mentioned rules rule q (at_in rules i rule at) has) in absurd (omega arith)
  into_rule a r le (by_condition rule element q c e has is to) =
      let k = t.known q (condition_mentioned rules rule element q c e has) in absurd (omega arith)

  pub out_of_rule : (r b : ℕ) → n ≤ r → Kind number rules n r b → (i : ℕ) × (rule : Rule) × (q : Pred) × IsAt rules i rule × Contains (flat_map item_preds rule.body) q × (n + i ≡ r) × (number q ≡ b)
  out_of_rule r b le (by_head i rule h at has is to) =
      let k = t.known h (head_mentioned rules rule h (at_in rules i rule at) has) in absurd (omega arith)
  out_of_rule r b le (by_body i rule q at has is to) = (i, rule, q, at, has, is, to)
  out_of_rule r b le (by_condition rule element q c e has is to) =
      let k = t.known (pred_of element.atom) (atom_mentioned rules rule element c e) in absurd (omega arith)

  through_kinds : (p : Pred) (r c : ℕ) → number p < n → n ≤ r → Kind number rules n (number p) r → Kind number rules n r c → (x : Pred) × (number x ≡ c) × Depends rules p x
  through_kinds p r c hp le first second =
      let f = into_rule (number p) r le first in
      let s = out_of_rule r c le second in
      let same = t.same p f.2 (sym f.5) hp in
      let place : f.0 ≡ s.0 = let e = f.6 in let d = s.5 in omega arith in
      let rule = same_rule rules f.0 s.0 f.1 s.1 place f.3 s.3 in
      let has : Contains (head_preds f.1.head) p = subst (λ v. Contains (head_preds f.1.head) v) (sym same) f.4 in
      let body : Contains (flat_map item_preds f.1.body) s.2 = subst (λ (v : Rule). Contains (flat_map item_preds v.body) s.2) (sym rule) s.4 in
      (s.2, s.6, any_of (DependsBy p s.2) rules f.1 (at_in rules f.0 f.1 f.3) (depends_head f.1 p s.2 has body))

  back_edges : (p x : Pred) (rule : Rule) → Contains rules rule → DependsBy p x rule → (number p < n) × (number x < n) × (Next (number p) (number x) ⊎ ((r : ℕ) × (n ≤ r) × Next (number p) r × Next r (number x)))
  back_edges p x rule h (inl both) =
      let at : IsAt rules h.0 rule = record { within = h.1; is = h.2 } in (
        t.known p (head_mentioned rules rule p h both.0),
        t.known x (body_mentioned rules rule x h both.1),
        inr (n + h.0, omega arith, head_there number rules n h.0 rule p at both.0, body_there number rules n h.0 rule x at both.1),
      )
  back_edges p x rule h (inr some) =
      let s = from_any (λ (v : ChoiceElement). (pred_of v.atom ≡ p) × Contains (preds_of v.condition) x) (choice_elements rule.head) some in
      let atom = t.known (pred_of s.0.atom) (atom_mentioned rules rule s.0 h s.1) in
      let there = condition_there number rules n rule s.0 x h s.1 s.2.1 in (
        subst (λ v. number v < n) s.2.0 atom,
        t.known x (condition_mentioned rules rule s.0 x h s.1 s.2.1),
        inl (subst (λ v. Next (number v) (number x)) s.2.0 there),
      )

  pub models : Models n number Next (Depends rules)
  models = record {
    same = t.same;
    direct = λ p c hp e lt. direct_kind p c hp (kind_of number rules n (number p) c e) lt;
    through = λ p r c hp e le f. through_kinds p r c hp le (kind_of number rules n (number p) r e) (kind_of number rules n r c f);
    back = λ p x d. let s = from_any (DependsBy p x) rules d in back_edges p x s.0 s.1 s.2;
  }
