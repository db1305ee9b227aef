-- Literals, bodies, heads and rules that are read, read back.
use Rattle.std.proofs.Common.{◌≡◌, Bool, true, false, List, [], ◌∷◌, ◌++◌, Option, Some, None, refl, ap, ◌∙◌, inl, inr}
use Rattle.std.proofs.lemmas.List.{append-nil}
use Rattle.grammar.specs.Form.{◌⨾◌}
use Rattle.grammar.specs.Form.Form.{Tok, Call, Star}
use Rattle.grammar.proofs.Interpret.{Reads}
use Rattle.ap_syntax.specs.declared.terms.Literal.{Literal}
use Rattle.ap_syntax.specs.declared.terms.Term.{Term}
use Rattle.ap_syntax.specs.declared.rules.BodyItem.{BodyItem}
use Rattle.ap_syntax.specs.declared.rules.Guard.{Guard}
use Rattle.ap_syntax.specs.declared.rules.HeadForm.TheVariants as heads
use Rattle.ap_grammar.specs.declared.terminals.Terminal.TheVariants as t
use Rattle.ap_grammar.specs.Lexemes.{Lexeme}
use Rattle.ap_grammar.specs.Values.{Value, as_agg_element, as_choice_element, as_condition, as_left, as_literal, as_right, as_term, collected, found, or_empty}
use Rattle.ap_grammar.specs.Values.Value.{aggregate, item, token}
use Rattle.ap_grammar.specs.Grammar.{Name, function_of, in_braces, made, many, rule_of}
use Rattle.canonical_law.proofs.Levels.{GoodTerm}
use Rattle.canonical_law.proofs.Lists.{Each, IsSignOr, collected-append, found_behind}
use Rattle.canonical_law.proofs.Literals.{AreLeft, GoodGuard, GoodLiteral, right_values}
use Rattle.canonical_law.proofs.Items.{GoodAggElement, GoodChoiceElement, GoodItemOf, agg_value, choice_value}
use Rattle.canonical_law.proofs.Rules.{GoodHead, GoodRule, choice_made, found_right, left_none, no_left}
use Rattle.canonical_law.proofs.Fine.{Fine}
use Rattle.canonical_law.proofs.Says.{Has, Says, SaysTerm}

-- ---- relations and literals

pub relation_says : {xs ys : List Fine} {vs : List Value} → Has (rule_of Name.Relation) xs ys vs → Says Name.Relation (made Name.Relation vs)
relation_says (Reads.left (Reads.tok e)) = (_, refl)
relation_says (Reads.right (Reads.left (Reads.tok e))) = (_, refl)
relation_says (Reads.right (Reads.right (Reads.left (Reads.tok e)))) = (_, refl)
relation_says (Reads.right (Reads.right (Reads.right (Reads.left (Reads.tok e))))) = (_, refl)
relation_says (Reads.right (Reads.right (Reads.right (Reads.right (Reads.left (Reads.tok e)))))) = (_, refl)
relation_says (Reads.right (Reads.right (Reads.right (Reads.right (Reads.right (Reads.left (Reads.tok e))))))) = (_, refl)
relation_says (Reads.right (Reads.right (Reads.right (Reads.right (Reads.right (Reads.right (Reads.tok e))))))) = (_, refl)

pub literal_says : {xs ys : List Fine} {vs : List Value} → Has (rule_of Name.Literal) xs ys vs → Says Name.Literal (made Name.Literal vs)
literal_says (Reads.left (Reads.seq (Reads.left (Reads.tok {t = x} e)) (Reads.call {v = v} m))) = rw m.2 (x.token, _, refl, GoodLiteral.not m.3)
literal_says (Reads.left (Reads.seq (Reads.right Reads.empty) (Reads.call {v = v} m))) = rw m.2 (m.0, _, refl, GoodLiteral.pos m.3)
literal_says (Reads.right (Reads.seq (Reads.call {v = v} m) (Reads.seq (Reads.call {v = w} n) (Reads.call {v = u} o)))) = rw (m.is, n.1, o.is) (m.first, _, refl, GoodLiteral.compare m.good o.good)

record AreLiterals (vs : List Value) : Type 0 where
  literals : List Literal
  are : collected as_literal vs ≡ literals
  good : Each GoodLiteral literals

comma_literal : (comma : Lexeme) (v : Value) (vs : List Value) → Says Name.Literal v → AreLiterals vs → AreLiterals (token comma ∷ v ∷ vs)
comma_literal comma v vs s a = record { literals = s.1 ∷ a.literals; are = rw s.2 (ap (λ ls. s.1 ∷ ls) a.are); good = Each.more s.3 a.good }

literals_behind : {xs ys : List Fine} {vs : List Value} → Has (Star (Tok t.Comma ⨾ Call Name.Literal)) xs ys vs → AreLiterals vs
literals_behind Reads.none = record { literals = []; are = refl; good = Each.none }
literals_behind (Reads.more (Reads.seq (Reads.tok {t = c} e) (Reads.call {v = v} m)) rest) = comma_literal c.token v _ m (literals_behind rest)

literals_made : (v : Value) (vs : List Value) → Says Name.Literal v → AreLiterals vs → Says Name.Literals (made Name.Literals (v ∷ vs))
literals_made v vs s a = rw (s.2, a.are) (s.1, a.literals, refl, Each.more s.3 a.good)

pub literals_say : {xs ys : List Fine} {vs : List Value} → Has (rule_of Name.Literals) xs ys vs → Says Name.Literals (made Name.Literals vs)
literals_say (Reads.seq (Reads.call {v = v} m) rest) = literals_made v _ m (literals_behind rest)

pub condition_says : {xs ys : List Fine} {vs : List Value} → Has (rule_of Name.Condition) xs ys vs → Says Name.Condition (made Name.Condition vs)
condition_says (Reads.seq (Reads.tok e) (Reads.left (Reads.call {v = v} m))) = rw m.2 (m.0 ∷ m.1, refl, m.3)
condition_says (Reads.seq (Reads.tok e) (Reads.right Reads.empty)) = ([], refl, Each.none)

-- ---- guards

pub left_guard_says : {xs ys : List Fine} {vs : List Value} → Has (rule_of Name.LeftGuard) xs ys vs → Says Name.LeftGuard (made Name.LeftGuard vs)
left_guard_says (Reads.seq (Reads.call {v = v} m) (Reads.right Reads.empty)) = rw m.is (m.first, _, refl, m.good)
left_guard_says (Reads.seq (Reads.call {v = v} m) (Reads.left (Reads.call {v = w} n))) = rw (m.is, n.1) (m.first, _, refl, m.good)

pub right_guard_says : {xs ys : List Fine} {vs : List Value} → Has (rule_of Name.RightGuard) xs ys vs → Says Name.RightGuard (made Name.RightGuard vs)
right_guard_says (Reads.seq (Reads.right Reads.empty) (Reads.call {v = v} m)) = rw m.is (_, refl, m.good)
right_guard_says (Reads.seq (Reads.left (Reads.call {v = w} n)) (Reads.call {v = v} m)) = rw (n.1, m.is) (_, refl, m.good)

-- ---- elements

pub choice_element_says : {xs ys : List Fine} {vs : List Value} → Has (rule_of Name.ChoiceElement) xs ys vs → Says Name.ChoiceElement (made Name.ChoiceElement vs)
choice_element_says (Reads.seq (Reads.call {v = v} m) (Reads.right Reads.empty)) = rw m.2 (_, refl, record { atom = m.3; condition = Each.none })
choice_element_says (Reads.seq (Reads.call {v = v} m) (Reads.left (Reads.call {v = w} n))) = rw (m.2, n.1) (_, refl, record { atom = m.3; condition = n.2 })

-- terms alone
record TermsAlone (vs : List Value) : Type 0 where
  first : Term
  rest : List Term
  are : (ws : List Value) → collected as_term (vs ++ ws) ≡ (first ∷ rest) ++ collected as_term ws
  none : (ws : List Value) → found as_condition (vs ++ ws) ≡ found as_condition ws
  good : Each GoodTerm (first ∷ rest)

record TermsBehind (vs : List Value) : Type 0 where
  terms : List Term
  are : (ws : List Value) → collected as_term (vs ++ ws) ≡ terms ++ collected as_term ws
  none : (ws : List Value) → found as_condition (vs ++ ws) ≡ found as_condition ws
  good : Each GoodTerm terms

comma_alone : (comma : Lexeme) (v : Value) (vs : List Value) → SaysTerm v → TermsBehind vs → TermsBehind (token comma ∷ v ∷ vs)
comma_alone comma v vs s a = record { terms = s.tree ∷ a.terms; are = λ ws. rw s.is (ap (λ ts. s.tree ∷ ts) (a.are ws)); none = λ ws. rw s.is (a.none ws); good = Each.more s.good a.good }

alone_behind : {xs ys : List Fine} {vs : List Value} → Has (Star (Tok t.Comma ⨾ Call Name.Term)) xs ys vs → TermsBehind vs
alone_behind Reads.none = record { terms = []; are = λ ws. refl; none = λ ws. refl; good = Each.none }
alone_behind (Reads.more (Reads.seq (Reads.tok {t = c} e) (Reads.call {v = v} m)) rest) = comma_alone c.token v _ m (alone_behind rest)

first_alone : (v : Value) (vs : List Value) → SaysTerm v → TermsBehind vs → TermsAlone (v ∷ vs)
first_alone v vs s a = record { first = s.tree; rest = a.terms; are = λ ws. rw s.is (ap (λ ts. s.tree ∷ ts) (a.are ws)); none = λ ws. rw s.is (a.none ws); good = Each.more s.good a.good }

terms_alone : {xs ys : List Fine} {vs : List Value} → Has (many (Call Name.Term) t.Comma) xs ys vs → TermsAlone vs
terms_alone (Reads.seq (Reads.call {v = v} m) rest) = first_alone v _ m (alone_behind rest)

agg_made : (vs : List Value) (a : TermsAlone vs) → Says Name.AggElement (made Name.AggElement (vs ++ []))
agg_made vs a = (_, ap (λ ts. Value.agg_element (record { terms = ts; condition = or_empty (found as_condition (vs ++ [])) })) (a.are [] ∙ append-nil (a.first ∷ a.rest)) ∙ ap (λ c. Value.agg_element (record { terms = a.first ∷ a.rest; condition = or_empty c })) (a.none []), GoodAggElement.good a.good Each.none)

agg_made_with : (vs : List Value) (v : Value) (a : TermsAlone vs) → Says Name.Condition v → Says Name.AggElement (made Name.AggElement (vs ++ v ∷ []))
agg_made_with vs v a c = rw c.1 (_, ap (λ ts. Value.agg_element (record { terms = ts; condition = or_empty (found as_condition (vs ++ Value.condition c.0 ∷ [])) })) (a.are (Value.condition c.0 ∷ []) ∙ append-nil (a.first ∷ a.rest)) ∙ ap (λ k. Value.agg_element (record { terms = a.first ∷ a.rest; condition = or_empty k })) (a.none (Value.condition c.0 ∷ [])), GoodAggElement.good a.good c.2)

pub agg_element_says : {xs ys : List Fine} {vs : List Value} → Has (rule_of Name.AggElement) xs ys vs → Says Name.AggElement (made Name.AggElement vs)
agg_element_says (Reads.seq {us = us} m (Reads.right Reads.empty)) = agg_made us (terms_alone m)
agg_element_says (Reads.seq {us = us} m (Reads.left (Reads.call {v = v} n))) = agg_made_with us v (terms_alone m) n

-- ---- elements in braces

module _ {A : Type 0} (value_of : Unit {0} → A → Value) (pick : Value → Option A) (Good : A → Type 0) (n : Name) (says : (v : Value) → Says n v → (x : A) × (v ≡ value_of tt x) × Good x) (no_token : (x : Lexeme) → pick (token x) ≡ None) (picks : (x : A) → pick (value_of tt x) ≡ Some x) where
  record AreIn (vs : List Value) : Type 0 where
    items : List A
    are : collected pick vs ≡ items
    good : Each Good items
    each : Each (IsSignOr value_of) vs

  skips : (x : Lexeme) (vs : List Value) {xs : List A} → collected pick vs ≡ xs → collected pick (token x ∷ vs) ≡ xs
  skips x vs f = ap (λ (o : Option A). elim o [ None ↦ collected pick vs | Some y ↦ y ∷ collected pick vs ]) (no_token x) ∙ f

  takes : (v : Value) (vs : List Value) {x : A} {xs : List A} → pick v ≡ Some x → collected pick vs ≡ xs → collected pick (v ∷ vs) ≡ x ∷ xs
  takes v vs {x = x} e f = ap (λ (o : Option A). elim o [ None ↦ collected pick vs | Some y ↦ y ∷ collected pick vs ]) e ∙ ap (λ ys. x ∷ ys) f

  item_more : (v : Value) (vs : List Value) → Says n v → AreIn vs → AreIn (v ∷ vs)
  item_more v vs s a = let q = says v s in record { items = q.0 ∷ a.items; are = takes v vs (ap pick q.1 ∙ picks q.0) a.are; good = Each.more q.2 a.good; each = Each.more (inr (tt, q.0, q.1)) a.each }

  token_more : (x : Lexeme) (vs : List Value) → AreIn vs → AreIn (token x ∷ vs)
  token_more x vs a = record { items = a.items; are = skips x vs a.are; good = a.good; each = Each.more (inl (x, refl)) a.each }

  items_behind : {xs ys : List Fine} {vs : List Value} (close : Lexeme) → Has (Star (Tok t.Semicolon ⨾ Call n)) xs ys vs → AreIn (vs ++ token close ∷ [])
  items_behind close Reads.none = token_more close [] (record { items = []; are = refl; good = Each.none; each = Each.none })
  items_behind close (Reads.more (Reads.seq (Reads.tok {t = c} e) (Reads.call {v = v} m)) rest) = token_more c.token _ (item_more v _ m (items_behind close rest))

  -- what stands behind the first brace
  record BehindBrace (vs : List Value) : Type 0 where
    brace : Lexeme
    rest : List Value
    is : vs ≡ token brace ∷ rest
    are : AreIn rest

  braces_say : {xs ys : List Fine} {vs : List Value} → Has (in_braces n) xs ys vs → BehindBrace vs
  braces_say (Reads.seq (Reads.tok {t = o} e) (Reads.seq (Reads.right Reads.empty) (Reads.tok {t = c} f))) = record { brace = o.token; rest = _; is = refl; are = token_more c.token [] (record { items = []; are = refl; good = Each.none; each = Each.none }) }
  braces_say (Reads.seq (Reads.tok {t = o} e) (Reads.seq (Reads.left (Reads.seq (Reads.call {v = v} m) rest)) (Reads.tok {t = c} f))) = record { brace = o.token; rest = _; is = refl; are = item_more v _ m (items_behind c.token rest) }

-- ---- aggregates and items of bodies

pub aggregate_says : {xs ys : List Fine} {vs : List Value} → Has (rule_of Name.Aggregate) xs ys vs → Says Name.Aggregate (made Name.Aggregate vs)
aggregate_says (Reads.seq (Reads.left (Reads.tok {t = x} e)) m) = let b = braces_say agg_value as_agg_element GoodAggElement Name.AggElement (λ v s. s) (λ x. refl) (λ x. refl) m in rw b.is (x.token, function_of x.token.terminal, b.are.items, ap (λ es. aggregate x.token (function_of x.token.terminal) es) b.are.are, b.are.good)
aggregate_says (Reads.seq (Reads.right (Reads.tok {t = x} e)) m) = let b = braces_say agg_value as_agg_element GoodAggElement Name.AggElement (λ v s. s) (λ x. refl) (λ x. refl) m in rw b.is (x.token, function_of x.token.terminal, b.are.items, ap (λ es. aggregate x.token (function_of x.token.terminal) es) b.are.are, b.are.good)

-- an aggregate with its guards

guarded_left : (w : Value) → Says Name.LeftGuard w → (v : Value) → Says Name.Aggregate v → Says Name.OpenItem (made Name.OpenItem (w ∷ v ∷ []))
guarded_left w g v a = rw (g.2, a.3) (_, refl, GoodItemOf.agg (GoodGuard.some g.3) a.4 GoodGuard.none)

guarded_both : (w : Value) → Says Name.LeftGuard w → (v : Value) → Says Name.Aggregate v → (u : Value) → Says Name.RightGuard u → Says Name.OpenItem (made Name.OpenItem (w ∷ v ∷ u ∷ []))
guarded_both w g v a u h = rw (g.2, a.3, h.1) (_, refl, GoodItemOf.agg (GoodGuard.some g.3) a.4 (GoodGuard.some h.2))

guarded_right : (v : Value) → Says Name.Aggregate v → (u : Value) → Says Name.RightGuard u → Says Name.OpenItem (made Name.OpenItem (v ∷ u ∷ []))
guarded_right v a u h = rw (a.3, h.1) (_, refl, GoodItemOf.agg GoodGuard.none a.4 (GoodGuard.some h.2))

unguarded : (v : Value) → Says Name.Aggregate v → Says Name.OpenItem (made Name.OpenItem (v ∷ []))
unguarded v a = rw a.3 (_, refl, GoodItemOf.agg GoodGuard.none a.4 GoodGuard.none)

not_left : (x : Lexeme) (w : Value) → Says Name.LeftGuard w → (v : Value) → Says Name.Aggregate v → Says Name.OpenItem (made Name.OpenItem (token x ∷ w ∷ v ∷ []))
not_left x w g v a = rw (g.2, a.3) (_, refl, GoodItemOf.agg (GoodGuard.some g.3) a.4 GoodGuard.none)

not_both : (x : Lexeme) (w : Value) → Says Name.LeftGuard w → (v : Value) → Says Name.Aggregate v → (u : Value) → Says Name.RightGuard u → Says Name.OpenItem (made Name.OpenItem (token x ∷ w ∷ v ∷ u ∷ []))
not_both x w g v a u h = rw (g.2, a.3, h.1) (_, refl, GoodItemOf.agg (GoodGuard.some g.3) a.4 (GoodGuard.some h.2))

not_right : (x : Lexeme) (v : Value) → Says Name.Aggregate v → (u : Value) → Says Name.RightGuard u → Says Name.OpenItem (made Name.OpenItem (token x ∷ v ∷ u ∷ []))
not_right x v a u h = rw (a.3, h.1) (_, refl, GoodItemOf.agg GoodGuard.none a.4 (GoodGuard.some h.2))

not_alone : (x : Lexeme) (v : Value) → Says Name.Aggregate v → Says Name.OpenItem (made Name.OpenItem (token x ∷ v ∷ []))
not_alone x v a = rw a.3 (_, refl, GoodItemOf.agg GoodGuard.none a.4 GoodGuard.none)

pub open_item_says : {xs ys : List Fine} {vs : List Value} → Has (rule_of Name.OpenItem) xs ys vs → Says Name.OpenItem (made Name.OpenItem vs)
open_item_says (Reads.left (Reads.call {v = v} m)) = rw m.2 (_, refl, GoodItemOf.plain m.3)
open_item_says (Reads.right (Reads.seq (Reads.left (Reads.tok {t = x} e)) (Reads.seq (Reads.left (Reads.call {v = w} g)) (Reads.seq (Reads.call {v = v} a) (Reads.left (Reads.call {v = u} h)))))) = not_both x.token w g v a u h
open_item_says (Reads.right (Reads.seq (Reads.left (Reads.tok {t = x} e)) (Reads.seq (Reads.left (Reads.call {v = w} g)) (Reads.seq (Reads.call {v = v} a) (Reads.right Reads.empty))))) = not_left x.token w g v a
open_item_says (Reads.right (Reads.seq (Reads.left (Reads.tok {t = x} e)) (Reads.seq (Reads.right Reads.empty) (Reads.seq (Reads.call {v = v} a) (Reads.left (Reads.call {v = u} h)))))) = not_right x.token v a u h
open_item_says (Reads.right (Reads.seq (Reads.left (Reads.tok {t = x} e)) (Reads.seq (Reads.right Reads.empty) (Reads.seq (Reads.call {v = v} a) (Reads.right Reads.empty))))) = not_alone x.token v a
open_item_says (Reads.right (Reads.seq (Reads.right Reads.empty) (Reads.seq (Reads.left (Reads.call {v = w} g)) (Reads.seq (Reads.call {v = v} a) (Reads.left (Reads.call {v = u} h)))))) = guarded_both w g v a u h
open_item_says (Reads.right (Reads.seq (Reads.right Reads.empty) (Reads.seq (Reads.left (Reads.call {v = w} g)) (Reads.seq (Reads.call {v = v} a) (Reads.right Reads.empty))))) = guarded_left w g v a
open_item_says (Reads.right (Reads.seq (Reads.right Reads.empty) (Reads.seq (Reads.right Reads.empty) (Reads.seq (Reads.call {v = v} a) (Reads.left (Reads.call {v = u} h)))))) = guarded_right v a u h
open_item_says (Reads.right (Reads.seq (Reads.right Reads.empty) (Reads.seq (Reads.right Reads.empty) (Reads.seq (Reads.call {v = v} a) (Reads.right Reads.empty))))) = unguarded v a

pub conditional_says : {xs ys : List Fine} {vs : List Value} → Has (rule_of Name.Conditional) xs ys vs → Says Name.Conditional (made Name.Conditional vs)
conditional_says (Reads.seq (Reads.call {v = v} m) (Reads.call {v = w} n)) = rw (m.2, n.1) (_, refl, GoodItemOf.all m.3 n.2)

-- ---- bodies

last_item : (v : Value) → ((i : BodyItem) × (v ≡ item i) × GoodItemOf i) → Says Name.Body (made Name.Body (v ∷ []))
last_item v s = rw s.1 (s.0, [], refl, Each.more s.2 Each.none)

next_item : (v : Value) (sign : Lexeme) (w : Value) → ((i : BodyItem) × (v ≡ item i) × GoodItemOf i) → Says Name.Body w → Says Name.Body (made Name.Body (v ∷ token sign ∷ w ∷ []))
next_item v sign w s b = rw (s.1, b.2) (s.0, b.0 ∷ b.1, refl, Each.more s.2 b.3)

pub body_says : {xs ys : List Fine} {vs : List Value} → Has (rule_of Name.Body) xs ys vs → Says Name.Body (made Name.Body vs)
body_says (Reads.left (Reads.seq (Reads.call {v = v} m) (Reads.right Reads.empty))) = last_item v m
body_says (Reads.left (Reads.seq (Reads.call {v = v} m) (Reads.left (Reads.seq (Reads.left (Reads.tok {t = x} e)) (Reads.call {v = w} n))))) = next_item v x.token w m n
body_says (Reads.left (Reads.seq (Reads.call {v = v} m) (Reads.left (Reads.seq (Reads.right (Reads.tok {t = x} e)) (Reads.call {v = w} n))))) = next_item v x.token w m n
body_says (Reads.right (Reads.seq (Reads.call {v = v} m) (Reads.right Reads.empty))) = last_item v m
body_says (Reads.right (Reads.seq (Reads.call {v = v} m) (Reads.left (Reads.seq (Reads.tok {t = x} e) (Reads.call {v = w} n))))) = next_item v x.token w m n

-- ---- heads

InChoice : List Value → Type 0
InChoice vs = BehindBrace choice_value as_choice_element GoodChoiceElement Name.ChoiceElement (λ v s. s) (λ x. refl) (λ x. refl) vs

choice_of : {xs ys : List Fine} {vs : List Value} → Has (in_braces Name.ChoiceElement) xs ys vs → InChoice vs
unfolding InChoice
choice_of m = braces_say choice_value as_choice_element GoodChoiceElement Name.ChoiceElement (λ v s. s) (λ x. refl) (λ x. refl) m

choice_says : (l r : Option Guard) (lv bv : List Value) → AreLeft l lv → GoodGuard l → InChoice bv → GoodGuard r → Says Name.Head (made Name.Head (lv ++ (bv ++ right_values r)))
unfolding InChoice
choice_says l r lv bv a g b h =
    let c = choice_made l r lv b.brace b.rest b.are.items a
    (collected-append as_choice_element b.rest (right_values r) ∙ (ap (λ fs. collected as_choice_element b.rest ++ fs) (no_left r) ∙ (append-nil (collected as_choice_element b.rest) ∙ b.are.are)))
    (found_behind choice_value as_right (λ x. refl) (λ i x. refl) (right_values r) b.are.each ∙ found_right r)
    (found_behind choice_value as_left (λ x. refl) (λ i x. refl) (right_values r) b.are.each ∙ left_none r) in
    rw b.is (c.0, heads.Choice l b.are.items r, c.1, GoodHead.choice g b.are.good h)

with_right : (l : Option Guard) (lv bv : List Value) (u : Value) → AreLeft l lv → GoodGuard l → InChoice bv → Says Name.RightGuard u → Says Name.Head (made Name.Head (lv ++ (bv ++ u ∷ [])))
with_right l lv bv u a g b h = rw h.1 (choice_says l (Some h.0) lv bv a g b (GoodGuard.some h.2))

pub head_says : {xs ys : List Fine} {vs : List Value} → Has (rule_of Name.Head) xs ys vs → Says Name.Head (made Name.Head vs)
head_says (Reads.left (Reads.call {v = v} m)) = rw m.2 (m.0, _, refl, GoodHead.one m.3)
head_says (Reads.right (Reads.seq (Reads.right Reads.empty) (Reads.seq {us = bv} m (Reads.right Reads.empty)))) = choice_says None None [] bv refl GoodGuard.none (choice_of m) GoodGuard.none
head_says (Reads.right (Reads.seq (Reads.right Reads.empty) (Reads.seq {us = bv} m (Reads.left (Reads.call {v = u} h))))) = with_right None [] bv u refl GoodGuard.none (choice_of m) h
head_says (Reads.right (Reads.seq (Reads.left (Reads.call {v = w} g)) (Reads.seq {us = bv} m (Reads.right Reads.empty)))) = choice_says (Some g.1) None (w ∷ []) bv (g.0, ap (λ v. v ∷ []) g.2) (GoodGuard.some g.3) (choice_of m) GoodGuard.none
head_says (Reads.right (Reads.seq (Reads.left (Reads.call {v = w} g)) (Reads.seq {us = bv} m (Reads.left (Reads.call {v = u} h))))) = with_right (Some g.1) (w ∷ []) bv u (g.0, ap (λ v. v ∷ []) g.2) (GoodGuard.some g.3) (choice_of m) h

-- ---- rules

headed_alone : (v : Value) (dot : Lexeme) → Says Name.Head v → Says (Name.Rule false) (made (Name.Rule false) (v ∷ token dot ∷ []))
headed_alone v dot h = rw h.2 (_, refl, GoodRule.headed h.3 Each.none)

headed_with : (v : Value) (sign : Lexeme) (w : Value) (dot : Lexeme) → Says Name.Head v → Says Name.Body w → Says (Name.Rule false) (made (Name.Rule false) (v ∷ token sign ∷ w ∷ token dot ∷ []))
headed_with v sign w dot h b = rw (h.2, b.2) (_, refl, GoodRule.headed h.3 b.3)

constraint_of : (sign : Lexeme) (w : Value) (dot : Lexeme) → Says Name.Body w → Says (Name.Rule false) (made (Name.Rule false) (token sign ∷ w ∷ token dot ∷ []))
constraint_of sign w dot b = rw b.2 (_, refl, GoodRule.constraint b.3)

typed_alone : (v : Value) (dot : Lexeme) → Says Name.Atom v → Says (Name.Rule true) (made (Name.Rule true) (v ∷ token dot ∷ []))
typed_alone v dot h = rw h.2 (_, refl, GoodRule.typed h.3 Each.none)

typed_with : (v : Value) (sign : Lexeme) (w : Value) (dot : Lexeme) → Says Name.Atom v → Says Name.Body w → Says (Name.Rule true) (made (Name.Rule true) (v ∷ token sign ∷ w ∷ token dot ∷ []))
typed_with v sign w dot h b = rw (h.2, b.2) (_, refl, GoodRule.typed h.3 b.3)

pub rule_says : {xs ys : List Fine} {vs : List Value} (of_type : Bool) → Has (rule_of (Name.Rule of_type)) xs ys vs → Says (Name.Rule of_type) (made (Name.Rule of_type) vs)
rule_says false (Reads.left (Reads.seq (Reads.call {v = v} m) (Reads.seq (Reads.right Reads.empty) (Reads.tok {t = d} f)))) = headed_alone v d.token m
rule_says false (Reads.left (Reads.seq (Reads.call {v = v} m) (Reads.seq (Reads.left (Reads.seq (Reads.tok {t = x} e) (Reads.call {v = w} n))) (Reads.tok {t = d} f)))) = headed_with v x.token w d.token m n
rule_says false (Reads.right (Reads.seq (Reads.tok {t = x} e) (Reads.seq (Reads.call {v = w} n) (Reads.tok {t = d} f)))) = constraint_of x.token w d.token n
rule_says true (Reads.seq (Reads.call {v = v} m) (Reads.seq (Reads.right Reads.empty) (Reads.tok {t = d} f))) = typed_alone v d.token m
rule_says true (Reads.seq (Reads.call {v = v} m) (Reads.seq (Reads.left (Reads.seq (Reads.tok {t = x} e) (Reads.call {v = w} n))) (Reads.tok {t = d} f))) = typed_with v x.token w d.token m n
