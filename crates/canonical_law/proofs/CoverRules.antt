-- What is written of literals, bodies, heads and rules costs no more than their tokens.
use Rattle.std.proofs.Common.{◌≡◌, ℕ, Bool, true, false, List, [], ◌∷◌, ◌++◌, map, Option, Some, None, refl, sym, ap, ◌∙◌, append_assoc, inl, inr}
use Rattle.std.specs.Prelude.{codes}
use Rattle.std.proofs.lemmas.List.{append-nil}
use Rattle.grammar.specs.Form.{◌⨾◌}
use Rattle.grammar.specs.Form.Form.{Tok, Call, Star}
use Rattle.grammar.proofs.Interpret.{Reads}
use Rattle.ap_syntax.specs.declared.terms.Literal.{Literal}
use Rattle.ap_syntax.specs.declared.terms.Rel.{Rel}
use Rattle.ap_syntax.specs.declared.terms.Rel.TheVariants.{Eq, Ne, Lt, Le, Gt, Ge}
use Rattle.ap_syntax.specs.declared.rules.AggElement.{AggElement}
use Rattle.ap_syntax.specs.declared.rules.BodyItem.{BodyItem}
use Rattle.ap_syntax.specs.declared.rules.BodyItem.TheVariants as items
use Rattle.ap_syntax.specs.declared.rules.Function.{Function}
use Rattle.ap_syntax.specs.declared.rules.Function.TheVariants as functions
use Rattle.ap_syntax.specs.declared.rules.Guard.{Guard}
use Rattle.ap_syntax.specs.declared.rules.HeadForm.TheVariants as heads
use Rattle.ap_syntax.specs.declared.terms.Atom.{Atom}
use Rattle.ap_syntax.specs.declared.rules.ChoiceElement.{ChoiceElement}
use Rattle.ap_syntax.specs.Pieces.{Piece, in_braces as braces, semicolons, spaced, spaced_behind, spelled}
use Rattle.ap_syntax.specs.CanonicalTerms.{atom_pieces, literal_pieces, literals_pieces, rel_sign}
use Rattle.ap_syntax.specs.CanonicalRules.{agg_element_pieces, body_pieces, choice_element_pieces, function_word, head_pieces, item_pieces, left_pieces, negation_pieces, right_pieces, separator}
use Rattle.ap_grammar.specs.declared.terminals.Terminal.{Terminal}
use Rattle.ap_grammar.specs.declared.terminals.Terminal.TheVariants as t
use Rattle.ap_grammar.specs.Lexemes.{Lexeme}
use Rattle.ap_grammar.specs.Values.{Value, as_agg_element, as_choice_element, as_condition, as_left, as_literal, as_right, collected, found, or_empty}
use Rattle.ap_grammar.specs.Values.Value.{aggregate, item, token}
use Rattle.ap_grammar.specs.Grammar.{Name, function_of, in_braces, made, relation_of, rule_of}
use Rattle.ap_lexemes.specs.Limits.{role_of}
use Rattle.canonical_law.proofs.Signs as sign
use Rattle.canonical_law.proofs.Lists.{Each, IsSignOr, behind, collected-append, found_behind, parted_behind}
use Rattle.canonical_law.proofs.Literals.{AreLeft, right_values}
use Rattle.canonical_law.proofs.Items.{agg_value, choice_value}
use Rattle.canonical_law.proofs.Rules.{choice_made, found_right, left_none, no_left}
use Rattle.canonical_law.proofs.Costs.{ascii_word, IsPlain, Loose, Measures, Writes, is_plain, loose, loose_as, loose_nothing, loose_sign, loose_spaced, loose_spaced_behind, loose_then, loose_word}
use Rattle.canonical_law.proofs.Fine.{Fine}
use Rattle.canonical_law.proofs.Covers.{Covers, CoversStatement, Has, IsHeaded, tail_pieces}
use Rattle.canonical_law.proofs.CoverTerms.{AreSome, covered_term, plain_token, some_covers}

-- ---- plain words

pub plain_rel : (r : Rel) → IsPlain (rel_sign r)
plain_rel Eq = ascii_word refl (λ x i. plain_token (sign.equal_is i) refl)
plain_rel Ne = ascii_word refl (λ x i. plain_token (sign.unequal_is i) refl)
plain_rel Lt = ascii_word refl (λ x i. plain_token (sign.less_is i) refl)
plain_rel Le = ascii_word refl (λ x i. plain_token (sign.at_most_is i) refl)
plain_rel Gt = ascii_word refl (λ x i. plain_token (sign.greater_is i) refl)
plain_rel Ge = ascii_word refl (λ x i. plain_token (sign.at_least_is i) refl)

plain_function : (f : Function) → IsPlain (function_word f)
plain_function functions.Count = ascii_word refl (λ x i. plain_token (sign.count_is i) refl)
plain_function functions.Sum = ascii_word refl (λ x i. plain_token (sign.sum_is i) refl)

pub plain_not : IsPlain (codes "not")
plain_not = ascii_word refl (λ x i. plain_token (sign.not_is i) refl)

pub plain_colon : IsPlain (codes ":")
plain_colon = ascii_word refl (λ x i. plain_token (sign.colon_is i) refl)

plain_semicolon : IsPlain (codes ";")
plain_semicolon = ascii_word refl (λ x i. plain_token (sign.semicolon_is i) refl)

plain_open_brace : IsPlain (codes "{")
plain_open_brace = ascii_word refl (λ x i. plain_token (sign.open_brace_is i) refl)

plain_close_brace : IsPlain (codes "}")
plain_close_brace = ascii_word refl (λ x i. plain_token (sign.close_brace_is i) refl)

plain_if : IsPlain (codes ":-")
plain_if = ascii_word refl (λ x i. plain_token (sign.if_is i) refl)

pub loose_comma : {x : Fine} {xs : List Fine} → x.token.terminal ≡ t.Comma → Loose (spaced_behind (codes ",")) (x ∷ xs) xs
loose_comma e = loose_sign (Writes.then Writes.comma Writes.blank) (Measures.comma (ap role_of e))

-- a sign that is written where none was read
added : {w : List ℕ} {xs : List Fine} → IsPlain w → Loose (spaced w) xs xs
added h = loose_sign (Writes.then Writes.blank (Writes.then (Writes.plain h) Writes.blank)) Measures.none

-- ---- relations and literals

by_sign : {ys : List Fine} (x : Fine) {k : Terminal} → x.token.terminal ≡ k → is_plain (role_of k) ≡ true → Covers Name.Relation (x ∷ ys) ys (made Name.Relation (token x.token ∷ []))
by_sign x e h = (_, refl, loose_spaced (plain_rel (relation_of x.token.terminal)) (plain_token e h))

pub relation_covers : {xs ys : List Fine} {vs : List Value} → Has (rule_of Name.Relation) xs ys vs → Covers Name.Relation xs ys (made Name.Relation vs)
relation_covers (Reads.left (Reads.tok {t = x} e)) = by_sign x e refl
relation_covers (Reads.right (Reads.left (Reads.tok {t = x} e))) = by_sign x e refl
relation_covers (Reads.right (Reads.right (Reads.left (Reads.tok {t = x} e)))) = by_sign x e refl
relation_covers (Reads.right (Reads.right (Reads.right (Reads.left (Reads.tok {t = x} e))))) = by_sign x e refl
relation_covers (Reads.right (Reads.right (Reads.right (Reads.right (Reads.left (Reads.tok {t = x} e)))))) = by_sign x e refl
relation_covers (Reads.right (Reads.right (Reads.right (Reads.right (Reads.right (Reads.left (Reads.tok {t = x} e))))))) = by_sign x e refl
relation_covers (Reads.right (Reads.right (Reads.right (Reads.right (Reads.right (Reads.right (Reads.tok {t = x} e))))))) = by_sign x e refl

pub literal_covers : {xs ys : List Fine} {vs : List Value} → Has (rule_of Name.Literal) xs ys vs → Covers Name.Literal xs ys (made Name.Literal vs)
literal_covers (Reads.left (Reads.seq (Reads.left (Reads.tok {t = x} e)) (Reads.call {v = v} m))) = rw m.2 (x.token, _, refl, loose_then (loose_spaced_behind plain_not (plain_token e refl)) (loose m.3))
literal_covers (Reads.left (Reads.seq (Reads.right Reads.empty) (Reads.call {v = v} m))) = rw m.2 (m.0, _, refl, loose m.3)
literal_covers (Reads.right (Reads.seq (Reads.call {v = v} m) (Reads.seq (Reads.call {v = w} n) (Reads.call {v = u} o)))) = rw (m.is, n.1, o.is) (m.first, _, refl, loose_then (loose_then (loose (covered_term m)) n.2) (loose (covered_term o)))

record AreLiterals (xs ys : List Fine) (vs : List Value) : Type 0 where
  literals : List Literal
  are : collected as_literal vs ≡ literals
  covered : Loose (behind (spaced_behind (codes ",")) (map literal_pieces literals)) xs ys

comma_literal : {xs ms ys : List Fine} (comma : Fine) (v : Value) (vs : List Value) → comma.token.terminal ≡ t.Comma → Covers Name.Literal xs ms v → AreLiterals ms ys vs → AreLiterals (comma ∷ xs) ys (token comma.token ∷ v ∷ vs)
comma_literal comma v vs e s a = record { literals = s.1 ∷ a.literals; are = rw s.2 (ap (λ ls. s.1 ∷ ls) a.are); covered = loose_then (loose_comma e) (loose_then s.3 a.covered) }

literals_behind : {xs ys : List Fine} {vs : List Value} → Has (Star (Tok t.Comma ⨾ Call Name.Literal)) xs ys vs → AreLiterals xs ys vs
literals_behind Reads.none = record { literals = []; are = refl; covered = loose_nothing }
literals_behind (Reads.more (Reads.seq (Reads.tok {t = c} e) (Reads.call {v = v} m)) rest) = comma_literal c v _ e m (literals_behind rest)

literals_made : {xs ms ys : List Fine} (v : Value) (vs : List Value) → Covers Name.Literal xs ms v → AreLiterals ms ys vs → Covers Name.Literals xs ys (made Name.Literals (v ∷ vs))
literals_made v vs s a = rw (s.2, a.are) (s.1, a.literals, refl, loose_as (parted_behind (spaced_behind (codes ",")) (literal_pieces s.1) (map literal_pieces a.literals)) (loose_then s.3 a.covered))

pub literals_cover : {xs ys : List Fine} {vs : List Value} → Has (rule_of Name.Literals) xs ys vs → Covers Name.Literals xs ys (made Name.Literals vs)
literals_cover (Reads.seq (Reads.call {v = v} m) rest) = literals_made v _ m (literals_behind rest)

pub condition_covers : {xs ys : List Fine} {vs : List Value} → Has (rule_of Name.Condition) xs ys vs → Covers Name.Condition xs ys (made Name.Condition vs)
condition_covers (Reads.seq (Reads.tok {t = x} e) (Reads.left (Reads.call {v = v} m))) = let c = loose_then (loose_spaced plain_colon (plain_token e refl)) m.3 in rw m.2 (m.0 ∷ m.1, refl, c, c)
condition_covers (Reads.seq (Reads.tok {t = x} e) (Reads.right Reads.empty)) = ([], refl, loose_then (loose_spaced plain_colon (plain_token e refl)) loose_nothing, loose_sign Writes.none (Measures.plain (plain_token e refl)))

-- ---- guards

pub left_guard_covers : {xs ys : List Fine} {vs : List Value} → Has (rule_of Name.LeftGuard) xs ys vs → Covers Name.LeftGuard xs ys (made Name.LeftGuard vs)
left_guard_covers (Reads.seq (Reads.call {v = v} m) (Reads.right Reads.empty)) = rw m.is (m.first, _, refl, loose_then (loose (covered_term m)) (added (plain_rel Le)))
left_guard_covers (Reads.seq (Reads.call {v = v} m) (Reads.left (Reads.call {v = w} n))) = rw (m.is, n.1) (m.first, _, refl, loose_then (loose (covered_term m)) n.2)

pub right_guard_covers : {xs ys : List Fine} {vs : List Value} → Has (rule_of Name.RightGuard) xs ys vs → Covers Name.RightGuard xs ys (made Name.RightGuard vs)
right_guard_covers (Reads.seq (Reads.right Reads.empty) (Reads.call {v = v} m)) = rw m.is (_, refl, loose_then (added (plain_rel Le)) (loose (covered_term m)))
right_guard_covers (Reads.seq (Reads.left (Reads.call {v = w} n)) (Reads.call {v = v} m)) = rw (n.1, m.is) (_, refl, loose_then n.2 (loose (covered_term m)))

-- ---- elements

pub choice_element_covers : {xs ys : List Fine} {vs : List Value} → Has (rule_of Name.ChoiceElement) xs ys vs → Covers Name.ChoiceElement xs ys (made Name.ChoiceElement vs)
choice_element_covers (Reads.seq (Reads.call {v = v} m) (Reads.right Reads.empty)) = rw m.2 (_, refl, loose_then (loose m.3) loose_nothing)
choice_element_covers (Reads.seq (Reads.call {v = v} m) (Reads.left (Reads.call {v = w} n))) = rw (m.2, n.1) (_, refl, loose_then (loose m.3) n.3)

agg_made : {xs ys : List Fine} (vs : List Value) (a : AreSome xs ys vs) → Covers Name.AggElement xs ys (made Name.AggElement (vs ++ []))
agg_made vs a = (_, ap (λ ts. Value.agg_element (record { terms = ts; condition = or_empty (found as_condition (vs ++ [])) })) (a.are [] ∙ append-nil (a.first ∷ a.rest)) ∙ ap (λ c. Value.agg_element (record { terms = a.first ∷ a.rest; condition = or_empty c })) (a.no_condition []), loose_then (loose a.covered) loose_nothing)

agg_made_with : {xs ms ys : List Fine} (vs : List Value) (v : Value) (a : AreSome xs ms vs) → Covers Name.Condition ms ys v → Covers Name.AggElement xs ys (made Name.AggElement (vs ++ v ∷ []))
agg_made_with vs v a c = rw c.1 (_, ap (λ ts. Value.agg_element (record { terms = ts; condition = or_empty (found as_condition (vs ++ Value.condition c.0 ∷ [])) })) (a.are (Value.condition c.0 ∷ []) ∙ append-nil (a.first ∷ a.rest)) ∙ ap (λ k. Value.agg_element (record { terms = a.first ∷ a.rest; condition = or_empty k })) (a.no_condition (Value.condition c.0 ∷ [])), loose_then (loose a.covered) c.3)

pub agg_element_covers : {xs ys : List Fine} {vs : List Value} → Has (rule_of Name.AggElement) xs ys vs → Covers Name.AggElement xs ys (made Name.AggElement vs)
agg_element_covers (Reads.seq {us = us} m (Reads.right Reads.empty)) = agg_made us (some_covers m)
agg_element_covers (Reads.seq {us = us} m (Reads.left (Reads.call {v = v} n))) = agg_made_with us v (some_covers m) n

-- ---- elements in braces

module _ {A : Type 0} (value_of : Unit {0} → A → Value) (pick : Value → Option A) (pieces : A → List Piece) (n : Name) (covers : (xs ys : List Fine) (v : Value) → Covers n xs ys v → (x : A) × (v ≡ value_of tt x) × Loose (pieces x) xs ys) (no_token : (x : Lexeme) → pick (token x) ≡ None) (picks : (x : A) → pick (value_of tt x) ≡ Some x) where
  record AreIn (xs ys : List Fine) (vs : List Value) : Type 0 where
    items : List A
    are : collected pick vs ≡ items
    covered : Loose (behind (spaced_behind (codes ";")) (map pieces items)) xs ys
    each : Each (IsSignOr value_of) vs

  skips : (x : Lexeme) (vs : List Value) {xs : List A} → collected pick vs ≡ xs → collected pick (token x ∷ vs) ≡ xs
  skips x vs f = ap (λ (o : Option A). elim o [ None ↦ collected pick vs | Some y ↦ y ∷ collected pick vs ]) (no_token x) ∙ f

  takes : (v : Value) (vs : List Value) {x : A} {xs : List A} → pick v ≡ Some x → collected pick vs ≡ xs → collected pick (v ∷ vs) ≡ x ∷ xs
  takes v vs {x = x} e f = ap (λ (o : Option A). elim o [ None ↦ collected pick vs | Some y ↦ y ∷ collected pick vs ]) e ∙ ap (λ ys. x ∷ ys) f

  item_more : {xs ms ys : List Fine} (c : Fine) (v : Value) (vs : List Value) → c.token.terminal ≡ t.Semicolon → Covers n xs ms v → AreIn ms ys vs → AreIn (c ∷ xs) ys (token c.token ∷ v ∷ vs)
  item_more {xs = xs} {ms = ms} c v vs e s a =
      let q = covers xs ms v s in
      record {
        items = q.0 ∷ a.items;
        are = skips c.token (v ∷ vs) (takes v vs (ap pick q.1 ∙ picks q.0) a.are);
        covered = loose_then (loose_spaced_behind plain_semicolon (plain_token e refl)) (loose_then q.2 a.covered);
        each = Each.more (inl (c.token, refl)) (Each.more (inr (tt, q.0, q.1)) a.each);
      }

  items_behind : {xs ys : List Fine} {vs : List Value} (close : Lexeme) → Has (Star (Tok t.Semicolon ⨾ Call n)) xs ys vs → AreIn xs ys (vs ++ token close ∷ [])
  items_behind close Reads.none = record { items = []; are = skips close [] refl; covered = loose_nothing; each = Each.more (inl (close, refl)) Each.none }
  items_behind close (Reads.more (Reads.seq (Reads.tok {t = c} e) (Reads.call {v = v} m)) rest) = item_more c v _ e m (items_behind close rest)

  -- the braces with what stands in them
  pub record InBraces (xs ys : List Fine) (vs : List Value) : Type 0 where
    pub brace : Lexeme
    pub rest : List Value
    pub is : vs ≡ token brace ∷ rest
    pub items : List A
    pub are : collected pick rest ≡ items
    pub each : Each (IsSignOr value_of) rest
    pub covered : Loose (braces (semicolons (map pieces items))) xs ys

  some_in : {xs ms ys : List Fine} (o : Fine) (v : Value) (vs : List Value) (c : Fine) → o.token.terminal ≡ t.OpenBrace → c.token.terminal ≡ t.CloseBrace → Covers n xs ms v → AreIn ms (c ∷ ys) vs → InBraces (o ∷ xs) ys (token o.token ∷ v ∷ vs)
  some_in {xs = xs} {ms = ms} o v vs c e f s a =
      let q = covers xs ms v s in
      record {
        brace = o.token;
        rest = v ∷ vs;
        is = refl;
        items = q.0 ∷ a.items;
        are = takes v vs (ap pick q.1 ∙ picks q.0) a.are;
        each = Each.more (inr (tt, q.0, q.1)) a.each;
        covered = loose_then (loose_then (loose_word plain_open_brace (plain_token e refl)) (loose_as (parted_behind (spaced_behind (codes ";")) (pieces q.0) (map pieces a.items)) (loose_then q.2 a.covered))) (loose_word plain_close_brace (plain_token f refl));
      }

  pub braces_cover : {xs ys : List Fine} {vs : List Value} → Has (in_braces n) xs ys vs → InBraces xs ys vs
  braces_cover (Reads.seq (Reads.tok {t = o} e) (Reads.seq (Reads.right Reads.empty) (Reads.tok {t = c} f))) = record {
    brace = o.token;
    rest = _;
    is = refl;
    items = [];
    are = skips c.token [] refl;
    each = Each.more (inl (c.token, refl)) Each.none;
    covered = loose_then (loose_then (loose_word plain_open_brace (plain_token e refl)) loose_nothing) (loose_word plain_close_brace (plain_token f refl));
  }
  braces_cover (Reads.seq (Reads.tok {t = o} e) (Reads.seq (Reads.left (Reads.seq (Reads.call {v = v} m) rest)) (Reads.tok {t = c} f))) = some_in o v _ c e f m (items_behind c.token rest)

-- ---- aggregates and items of bodies

with_word : {xs ys : List Fine} (x : Fine) (vs : List Value) {k : Terminal} → x.token.terminal ≡ k → is_plain (role_of k) ≡ true → InBraces agg_value as_agg_element agg_element_pieces Name.AggElement (λ xs ys v s. s) (λ x. refl) (λ x. refl) xs ys vs → Covers Name.Aggregate (x ∷ xs) ys (made Name.Aggregate (token x.token ∷ vs))
with_word x vs e h b = rw b.is (x.token, function_of x.token.terminal, b.items, ap (λ es. aggregate x.token (function_of x.token.terminal) es) b.are, loose_then (loose_word (plain_function (function_of x.token.terminal)) (plain_token e h)) b.covered)

pub aggregate_covers : {xs ys : List Fine} {vs : List Value} → Has (rule_of Name.Aggregate) xs ys vs → Covers Name.Aggregate xs ys (made Name.Aggregate vs)
aggregate_covers (Reads.seq (Reads.left (Reads.tok {t = x} e)) m) = with_word x _ e refl (braces_cover agg_value as_agg_element agg_element_pieces Name.AggElement (λ xs ys v s. s) (λ x. refl) (λ x. refl) m)
aggregate_covers (Reads.seq (Reads.right (Reads.tok {t = x} e)) m) = with_word x _ e refl (braces_cover agg_value as_agg_element agg_element_pieces Name.AggElement (λ xs ys v s. s) (λ x. refl) (λ x. refl) m)

-- an aggregate with its guards
agg_covered : {xs ks bs cs ys : List Fine} (negated : Bool) (l : Option Guard) (f : Function) (es : List AggElement) (r : Option Guard) → Loose (negation_pieces negated) xs ks → Loose (left_pieces l) ks bs → Loose (spelled (function_word f) ++ braces (semicolons (map agg_element_pieces es))) bs cs → Loose (right_pieces r) cs ys → Loose (item_pieces (items.Agg negated l f es r)) xs ys
agg_covered negated l f es r a b c d = loose_as (ap (λ ps. ps ++ right_pieces r) (append_assoc (negation_pieces negated ++ left_pieces l) (spelled (function_word f)) (braces (semicolons (map agg_element_pieces es))))) (loose_then (loose_then (loose_then a b) c) d)

guarded_left : {xs ms ys : List Fine} (w : Value) → Covers Name.LeftGuard xs ms w → (v : Value) → Covers Name.Aggregate ms ys v → Covers Name.OpenItem xs ys (made Name.OpenItem (w ∷ v ∷ []))
guarded_left w g v a = rw (g.2, a.3) (_, refl, agg_covered false (Some g.1) a.1 a.2 None loose_nothing g.3 a.4 loose_nothing)

guarded_both : {xs ms ns ys : List Fine} (w : Value) → Covers Name.LeftGuard xs ms w → (v : Value) → Covers Name.Aggregate ms ns v → (u : Value) → Covers Name.RightGuard ns ys u → Covers Name.OpenItem xs ys (made Name.OpenItem (w ∷ v ∷ u ∷ []))
guarded_both w g v a u h = rw (g.2, a.3, h.1) (_, refl, agg_covered false (Some g.1) a.1 a.2 (Some h.0) loose_nothing g.3 a.4 h.2)

guarded_right : {xs ms ys : List Fine} (v : Value) → Covers Name.Aggregate xs ms v → (u : Value) → Covers Name.RightGuard ms ys u → Covers Name.OpenItem xs ys (made Name.OpenItem (v ∷ u ∷ []))
guarded_right v a u h = rw (a.3, h.1) (_, refl, agg_covered false None a.1 a.2 (Some h.0) loose_nothing loose_nothing a.4 h.2)

unguarded : {xs ys : List Fine} (v : Value) → Covers Name.Aggregate xs ys v → Covers Name.OpenItem xs ys (made Name.OpenItem (v ∷ []))
unguarded v a = rw a.3 (_, refl, agg_covered false None a.1 a.2 None loose_nothing loose_nothing a.4 loose_nothing)

negated_by : {xs : List Fine} (x : Fine) → x.token.terminal ≡ t.Not → Loose (negation_pieces true) (x ∷ xs) xs
negated_by x e = loose_spaced_behind plain_not (plain_token e refl)

not_left : {xs ms ys : List Fine} (x : Fine) → x.token.terminal ≡ t.Not → (w : Value) → Covers Name.LeftGuard xs ms w → (v : Value) → Covers Name.Aggregate ms ys v → Covers Name.OpenItem (x ∷ xs) ys (made Name.OpenItem (token x.token ∷ w ∷ v ∷ []))
not_left x e w g v a = rw (g.2, a.3) (_, refl, agg_covered true (Some g.1) a.1 a.2 None (negated_by x e) g.3 a.4 loose_nothing)

not_both : {xs ms ns ys : List Fine} (x : Fine) → x.token.terminal ≡ t.Not → (w : Value) → Covers Name.LeftGuard xs ms w → (v : Value) → Covers Name.Aggregate ms ns v → (u : Value) → Covers Name.RightGuard ns ys u → Covers Name.OpenItem (x ∷ xs) ys (made Name.OpenItem (token x.token ∷ w ∷ v ∷ u ∷ []))
not_both x e w g v a u h = rw (g.2, a.3, h.1) (_, refl, agg_covered true (Some g.1) a.1 a.2 (Some h.0) (negated_by x e) g.3 a.4 h.2)

not_right : {xs ms ys : List Fine} (x : Fine) → x.token.terminal ≡ t.Not → (v : Value) → Covers Name.Aggregate xs ms v → (u : Value) → Covers Name.RightGuard ms ys u → Covers Name.OpenItem (x ∷ xs) ys (made Name.OpenItem (token x.token ∷ v ∷ u ∷ []))
not_right x e v a u h = rw (a.3, h.1) (_, refl, agg_covered true None a.1 a.2 (Some h.0) (negated_by x e) loose_nothing a.4 h.2)

not_alone : {xs ys : List Fine} (x : Fine) → x.token.terminal ≡ t.Not → (v : Value) → Covers Name.Aggregate xs ys v → Covers Name.OpenItem (x ∷ xs) ys (made Name.OpenItem (token x.token ∷ v ∷ []))
not_alone x e v a = rw a.3 (_, refl, agg_covered true None a.1 a.2 None (negated_by x e) loose_nothing a.4 loose_nothing)

pub open_item_covers : {xs ys : List Fine} {vs : List Value} → Has (rule_of Name.OpenItem) xs ys vs → Covers Name.OpenItem xs ys (made Name.OpenItem vs)
open_item_covers (Reads.left (Reads.call {v = v} m)) = rw m.2 (_, refl, m.3)
open_item_covers (Reads.right (Reads.seq (Reads.left (Reads.tok {t = x} e)) (Reads.seq (Reads.left (Reads.call {v = w} g)) (Reads.seq (Reads.call {v = v} a) (Reads.left (Reads.call {v = u} h)))))) = not_both x e w g v a u h
open_item_covers (Reads.right (Reads.seq (Reads.left (Reads.tok {t = x} e)) (Reads.seq (Reads.left (Reads.call {v = w} g)) (Reads.seq (Reads.call {v = v} a) (Reads.right Reads.empty))))) = not_left x e w g v a
open_item_covers (Reads.right (Reads.seq (Reads.left (Reads.tok {t = x} e)) (Reads.seq (Reads.right Reads.empty) (Reads.seq (Reads.call {v = v} a) (Reads.left (Reads.call {v = u} h)))))) = not_right x e v a u h
open_item_covers (Reads.right (Reads.seq (Reads.left (Reads.tok {t = x} e)) (Reads.seq (Reads.right Reads.empty) (Reads.seq (Reads.call {v = v} a) (Reads.right Reads.empty))))) = not_alone x e v a
open_item_covers (Reads.right (Reads.seq (Reads.right Reads.empty) (Reads.seq (Reads.left (Reads.call {v = w} g)) (Reads.seq (Reads.call {v = v} a) (Reads.left (Reads.call {v = u} h)))))) = guarded_both w g v a u h
open_item_covers (Reads.right (Reads.seq (Reads.right Reads.empty) (Reads.seq (Reads.left (Reads.call {v = w} g)) (Reads.seq (Reads.call {v = v} a) (Reads.right Reads.empty))))) = guarded_left w g v a
open_item_covers (Reads.right (Reads.seq (Reads.right Reads.empty) (Reads.seq (Reads.right Reads.empty) (Reads.seq (Reads.call {v = v} a) (Reads.left (Reads.call {v = u} h)))))) = guarded_right v a u h
open_item_covers (Reads.right (Reads.seq (Reads.right Reads.empty) (Reads.seq (Reads.right Reads.empty) (Reads.seq (Reads.call {v = v} a) (Reads.right Reads.empty))))) = unguarded v a

pub conditional_covers : {xs ys : List Fine} {vs : List Value} → Has (rule_of Name.Conditional) xs ys vs → Covers Name.Conditional xs ys (made Name.Conditional vs)
conditional_covers (Reads.seq (Reads.call {v = v} m) (Reads.call {v = w} n)) = rw (m.2, n.1) (_, refl, loose_as (append_assoc (literal_pieces m.1) (spaced (codes ":")) (literals_pieces n.0)) (loose_then m.3 n.2))

-- ---- bodies

-- what is written between two items, which costs nothing
separator_written : (i : BodyItem) → (c : ℕ) × Writes (separator i) (record { nesting = 0; commas = c; arity = 0 })
separator_written (items.Plain l) = (1, Writes.then Writes.comma Writes.blank)
separator_written (items.All at l ls) = (0, Writes.then (Writes.plain plain_semicolon) Writes.blank)
separator_written (items.Agg n l f es r) = (1, Writes.then Writes.comma Writes.blank)

comma_separates : {xs : List Fine} (i : BodyItem) (x : Fine) → x.token.terminal ≡ t.Comma → Loose (separator i) (x ∷ xs) xs
comma_separates i x e = loose_sign (separator_written i).1 (Measures.comma (ap role_of e))

semicolon_separates : {xs : List Fine} (i : BodyItem) (x : Fine) → x.token.terminal ≡ t.Semicolon → Loose (separator i) (x ∷ xs) xs
semicolon_separates i x e = loose_sign (separator_written i).1 (Measures.plain (plain_token e refl))

last_item : {xs ys : List Fine} (v : Value) → ((i : BodyItem) × (v ≡ item i) × Loose (item_pieces i) xs ys) → Covers Name.Body xs ys (made Name.Body (v ∷ []))
last_item v s = rw s.1 (s.0, [], refl, s.2)

next_item : {xs ms ys : List Fine} (v : Value) (sign : Fine) (w : Value) → ((i : BodyItem) × (v ≡ item i) × Loose (item_pieces i) xs (sign ∷ ms)) → ((i : BodyItem) → Loose (separator i) (sign ∷ ms) ms) → Covers Name.Body ms ys w → Covers Name.Body xs ys (made Name.Body (v ∷ token sign.token ∷ w ∷ []))
next_item v sign w s c b = rw (s.1, b.2) (s.0, b.0 ∷ b.1, refl, loose_then (loose_then s.2 (c s.0)) b.3)

pub body_covers : {xs ys : List Fine} {vs : List Value} → Has (rule_of Name.Body) xs ys vs → Covers Name.Body xs ys (made Name.Body vs)
body_covers (Reads.left (Reads.seq (Reads.call {v = v} m) (Reads.right Reads.empty))) = last_item v m
body_covers (Reads.left (Reads.seq (Reads.call {v = v} m) (Reads.left (Reads.seq (Reads.left (Reads.tok {t = x} e)) (Reads.call {v = w} n))))) = next_item v x w m (λ i. comma_separates i x e) n
body_covers (Reads.left (Reads.seq (Reads.call {v = v} m) (Reads.left (Reads.seq (Reads.right (Reads.tok {t = x} e)) (Reads.call {v = w} n))))) = next_item v x w m (λ i. semicolon_separates i x e) n
body_covers (Reads.right (Reads.seq (Reads.call {v = v} m) (Reads.right Reads.empty))) = last_item v m
body_covers (Reads.right (Reads.seq (Reads.call {v = v} m) (Reads.left (Reads.seq (Reads.tok {t = x} e) (Reads.call {v = w} n))))) = next_item v x w m (λ i. semicolon_separates i x e) n

-- ---- heads

headed_one : (a : Atom) → IsHeaded (heads.One a)
headed_one a [] = sym (append-nil (atom_pieces a))
headed_one a (i ∷ is) = append_assoc (atom_pieces a) (spaced (codes ":-")) (body_pieces (i ∷ is))

headed_choice : (l : Option Guard) (es : List ChoiceElement) (r : Option Guard) → IsHeaded (heads.Choice l es r)
headed_choice l es r [] = sym (append-nil (head_pieces (heads.Choice l es r)))
headed_choice l es r (i ∷ is) = append_assoc (head_pieces (heads.Choice l es r)) (spaced (codes ":-")) (body_pieces (i ∷ is))

InChoice : List Fine → List Fine → List Value → Type 0
InChoice xs ys vs = InBraces choice_value as_choice_element choice_element_pieces Name.ChoiceElement (λ xs ys v s. s) (λ x. refl) (λ x. refl) xs ys vs

choice_of : {xs ys : List Fine} {vs : List Value} → Has (in_braces Name.ChoiceElement) xs ys vs → InChoice xs ys vs
unfolding InChoice
choice_of m = braces_cover choice_value as_choice_element choice_element_pieces Name.ChoiceElement (λ xs ys v s. s) (λ x. refl) (λ x. refl) m

choice_covers : {xs ms ns ys : List Fine} (l r : Option Guard) (lv bv : List Value) → AreLeft l lv → Loose (left_pieces l) xs ms → InChoice ms ns bv → Loose (right_pieces r) ns ys → Covers Name.Head xs ys (made Name.Head (lv ++ (bv ++ right_values r)))
unfolding InChoice
choice_covers l r lv bv a g b h =
    let c = choice_made l r lv b.brace b.rest b.items a
    (collected-append as_choice_element b.rest (right_values r) ∙ (ap (λ fs. collected as_choice_element b.rest ++ fs) (no_left r) ∙ (append-nil (collected as_choice_element b.rest) ∙ b.are)))
    (found_behind choice_value as_right (λ x. refl) (λ i x. refl) (right_values r) b.each ∙ found_right r)
    (found_behind choice_value as_left (λ x. refl) (λ i x. refl) (right_values r) b.each ∙ left_none r) in
    rw b.is (c.0, heads.Choice l b.items r, c.1, loose_then (loose_then g b.covered) h, headed_choice l b.items r)

with_right : {xs ms ns ys : List Fine} (l : Option Guard) (lv bv : List Value) (u : Value) → AreLeft l lv → Loose (left_pieces l) xs ms → InChoice ms ns bv → Covers Name.RightGuard ns ys u → Covers Name.Head xs ys (made Name.Head (lv ++ (bv ++ u ∷ [])))
with_right l lv bv u a g b h = rw h.1 (choice_covers l (Some h.0) lv bv a g b h.2)

pub head_covers : {xs ys : List Fine} {vs : List Value} → Has (rule_of Name.Head) xs ys vs → Covers Name.Head xs ys (made Name.Head vs)
head_covers (Reads.left (Reads.call {v = v} m)) = rw m.2 (m.0, _, refl, loose m.3, headed_one m.1)
head_covers (Reads.right (Reads.seq (Reads.right Reads.empty) (Reads.seq {us = bv} m (Reads.right Reads.empty)))) = choice_covers None None [] bv refl loose_nothing (choice_of m) loose_nothing
head_covers (Reads.right (Reads.seq (Reads.right Reads.empty) (Reads.seq {us = bv} m (Reads.left (Reads.call {v = u} h))))) = with_right None [] bv u refl loose_nothing (choice_of m) h
head_covers (Reads.right (Reads.seq (Reads.left (Reads.call {v = w} g)) (Reads.seq {us = bv} m (Reads.right Reads.empty)))) = choice_covers (Some g.1) None (w ∷ []) bv (g.0, ap (λ v. v ∷ []) g.2) g.3 (choice_of m) loose_nothing
head_covers (Reads.right (Reads.seq (Reads.left (Reads.call {v = w} g)) (Reads.seq {us = bv} m (Reads.left (Reads.call {v = u} h))))) = with_right (Some g.1) (w ∷ []) bv u (g.0, ap (λ v. v ∷ []) g.2) g.3 (choice_of m) h

-- ---- rules

tail_covered : {ms ys : List Fine} (sign : Fine) (w : Value) → sign.token.terminal ≡ t.If → (b : Covers Name.Body ms ys w) → Loose (tail_pieces (b.0 ∷ b.1)) (sign ∷ ms) ys
tail_covered sign w e b = loose_then (loose_spaced plain_if (plain_token e refl)) b.3

headed_alone : {xs ys : List Fine} (v : Value) (dot : Fine) → dot.token.terminal ≡ t.Dot → Covers Name.Head xs (dot ∷ ys) v → CoversStatement xs ys (made (Name.Rule false) (v ∷ token dot.token ∷ []))
headed_alone v dot e h = rw h.2 (record { tree = _; is = refl; line = record { front = _; pieces = refl; dot = dot; is_dot = e; covered = loose_as (h.4 []) (loose_then h.3 loose_nothing) } })

headed_with : {xs ms ys : List Fine} (v : Value) (sign : Fine) (w : Value) (dot : Fine) → sign.token.terminal ≡ t.If → dot.token.terminal ≡ t.Dot → Covers Name.Head xs (sign ∷ ms) v → Covers Name.Body ms (dot ∷ ys) w → CoversStatement xs ys (made (Name.Rule false) (v ∷ token sign.token ∷ w ∷ token dot.token ∷ []))
headed_with v sign w dot e f h b = rw (h.2, b.2) (record { tree = _; is = refl; line = record { front = _; pieces = refl; dot = dot; is_dot = f; covered = loose_as (h.4 (b.0 ∷ b.1)) (loose_then h.3 (tail_covered sign w e b)) } })

constraint_of : {xs ys : List Fine} (sign : Fine) (w : Value) (dot : Fine) → sign.token.terminal ≡ t.If → dot.token.terminal ≡ t.Dot → Covers Name.Body xs (dot ∷ ys) w → CoversStatement (sign ∷ xs) ys (made (Name.Rule false) (token sign.token ∷ w ∷ token dot.token ∷ []))
constraint_of sign w dot e f b = rw b.2 (record { tree = _; is = refl; line = record { front = _; pieces = refl; dot = dot; is_dot = f; covered = loose_then (loose_spaced_behind plain_if (plain_token e refl)) b.3 } })

typed_alone : {xs ys : List Fine} (v : Value) (dot : Fine) → dot.token.terminal ≡ t.Dot → Covers Name.Atom xs (dot ∷ ys) v → CoversStatement xs ys (made (Name.Rule true) (v ∷ token dot.token ∷ []))
typed_alone v dot e h = rw h.2 (record { tree = _; is = refl; line = record { front = _; pieces = refl; dot = dot; is_dot = e; covered = loose h.3 } })

typed_with : {xs ms ys : List Fine} (v : Value) (sign : Fine) (w : Value) (dot : Fine) → sign.token.terminal ≡ t.If → dot.token.terminal ≡ t.Dot → Covers Name.Atom xs (sign ∷ ms) v → Covers Name.Body ms (dot ∷ ys) w → CoversStatement xs ys (made (Name.Rule true) (v ∷ token sign.token ∷ w ∷ token dot.token ∷ []))
typed_with v sign w dot e f h b = rw (h.2, b.2) (record { tree = _; is = refl; line = record { front = _; pieces = refl; dot = dot; is_dot = f; covered = loose_as (headed_one h.1 (b.0 ∷ b.1)) (loose_then (loose h.3) (tail_covered sign w e b)) } })

pub rule_covers : {xs ys : List Fine} {vs : List Value} (of_type : Bool) → Has (rule_of (Name.Rule of_type)) xs ys vs → CoversStatement xs ys (made (Name.Rule of_type) vs)
rule_covers false (Reads.left (Reads.seq (Reads.call {v = v} m) (Reads.seq (Reads.right Reads.empty) (Reads.tok {t = d} f)))) = headed_alone v d f m
rule_covers false (Reads.left (Reads.seq (Reads.call {v = v} m) (Reads.seq (Reads.left (Reads.seq (Reads.tok {t = x} e) (Reads.call {v = w} n))) (Reads.tok {t = d} f)))) = headed_with v x w d e f m n
rule_covers false (Reads.right (Reads.seq (Reads.tok {t = x} e) (Reads.seq (Reads.call {v = w} n) (Reads.tok {t = d} f)))) = constraint_of x w d e f n
rule_covers true (Reads.seq (Reads.call {v = v} m) (Reads.seq (Reads.right Reads.empty) (Reads.tok {t = d} f))) = typed_alone v d f m
rule_covers true (Reads.seq (Reads.call {v = v} m) (Reads.seq (Reads.left (Reads.seq (Reads.tok {t = x} e) (Reads.call {v = w} n))) (Reads.tok {t = d} f))) = typed_with v x w d e f m n
