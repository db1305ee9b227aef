-- Choice elements, aggregates and bodies read back.
use Rattle.std.proofs.Common.{◌≡◌, ℕ, Bool, true, false, List, [], ◌∷◌, ◌++◌, map, Option, Some, None, refl, sym, ap, subst, ◌∙◌}
use Rattle.std.specs.Prelude.{codes}
use Rattle.std.proofs.lemmas.List.{append-nil}
use Rattle.grammar.specs.Form.{Derives, ◌∣◌, opt}
use Rattle.grammar.specs.Form.Form.{Tok, Call}
use Rattle.ap_syntax.specs.declared.terms.Atom.{Atom}
use Rattle.ap_syntax.specs.declared.terms.Literal.{Literal}
use Rattle.ap_syntax.specs.declared.terms.Term.{Term}
use Rattle.ap_syntax.specs.declared.rules.AggElement.{AggElement}
use Rattle.ap_syntax.specs.declared.rules.BodyItem.{BodyItem}
use Rattle.ap_syntax.specs.declared.rules.BodyItem.TheVariants as items
use Rattle.ap_syntax.specs.declared.rules.ChoiceElement.{ChoiceElement}
use Rattle.ap_syntax.specs.declared.rules.Function.{Function}
use Rattle.ap_syntax.specs.declared.rules.Function.TheVariants.{Count, Sum}
use Rattle.ap_syntax.specs.declared.rules.Guard.{Guard}
use Rattle.ap_syntax.specs.Pieces.{Piece, in_braces, semicolons, spaced, spelled, text_of}
use Rattle.ap_syntax.specs.Pieces.Piece.{Spelled}
use Rattle.ap_syntax.specs.CanonicalTerms.{atom_pieces, literal_pieces, literals_pieces, terms_pieces}
use Rattle.ap_syntax.specs.CanonicalRules.{agg_element_pieces, body_pieces, choice_element_pieces, condition_pieces, function_word, item_pieces, left_pieces, negation_pieces, right_pieces, separator}
use Rattle.ap_grammar.specs.declared.terminals.Terminal.TheVariants as t
use Rattle.ap_grammar.specs.Lexemes.{Lexeme}
use Rattle.ap_grammar.specs.Values.{Value, as_agg_element, as_choice_element, as_condition, as_term, collected, found, or_empty}
use Rattle.ap_grammar.specs.Values.Value.{aggregate, atom, body, item, token}
use Rattle.ap_grammar.specs.Grammar.{Name, function_of, grammar, made, many}
use Rattle.canonical_law.specs.Unplaced.{unplaced_item, unplaced_items}
use Rattle.canonical_law.proofs.Lexing.{Ends}
use Rattle.canonical_law.proofs.Spells.{Is, Spells, Clear, split, split3, clear_append, clear3, spaced_behind_is, spaced_clear, spaced_behind_clear, join}
use Rattle.canonical_law.proofs.Signs as sign
use Rattle.canonical_law.proofs.Levels.{GoodTerm}
use Rattle.canonical_law.proofs.Lists.{Each, alike_same, GoodItem, collected-append, found_behind, from_here, up_to}
use Rattle.canonical_law.proofs.Terms.{term_value, terms_clear, terms_read}
use Rattle.canonical_law.proofs.Literals.{AreLeft, GoodAtom, GoodGuard, GoodLiteral, atom_clear, atom_spelled, colon_spelled, condition_clear, condition_ends, condition_spelled, condition_values, left_clear, left_spelled, literal_clear, literal_spelled, literals_clear, right_clear, right_spelled, right_values}
use Rattle.canonical_law.proofs.Braces.{braces_clear, braces_spelled}

pub found_condition : (ls : List Literal) → or_empty (found as_condition (condition_values ls)) ≡ ls
found_condition [] = refl
found_condition (l ∷ ls) = refl

-- ---- choice elements

pub record GoodChoiceElement (e : ChoiceElement) : Type 0 where
  pub atom : GoodAtom e.atom
  pub condition : Each GoodLiteral e.condition

-- an element has no place
abbrev pub choice_value : Unit {0} → ChoiceElement → Value
choice_value u e = Value.choice_element e

abbrev pub ChoiceItem : ChoiceElement → Type 0
ChoiceItem e = GoodItem (λ y z. y ≡ z) choice_element_pieces as_choice_element choice_value (Call Name.ChoiceElement) e

choice_element_derives : {a : Atom} {ls : List Literal} {first : Lexeme} {xs ms ys : List Lexeme} → Derives grammar (Call Name.Atom) xs ms (atom first a ∷ []) → Derives grammar (opt (Call Name.Condition)) ms ys (condition_values ls) → Derives grammar (Call Name.ChoiceElement) xs ys (Value.choice_element (record { atom = a; condition = ls }) ∷ [])
choice_element_derives {a = a} {ls = ls} {xs = xs} {ys = ys} d e = subst (λ ms. Derives grammar (Call Name.ChoiceElement) xs ys (Value.choice_element (record { atom = a; condition = ms }) ∷ [])) (found_condition ls) (Derives.call {n = Name.ChoiceElement} (Derives.seq d e))

pub choice_item : (e : ChoiceElement) → GoodChoiceElement e → ChoiceItem e
choice_item e g = record {
  derives = λ s. let q = split (atom_pieces e.atom) s in let a = atom_spelled g.atom q.1 in
      record { info = tt; read = e; derives = choice_element_derives a.derives (condition_spelled e.condition g.condition q.2); same = refl };
  clear = λ rest h. clear_append (atom_pieces e.atom) (condition_pieces e.condition) rest (atom_clear _ g.atom (condition_ends e.condition rest h)) (condition_clear e.condition rest g.condition h);
}

-- ---- elements of aggregates

pub data GoodAggElement : AggElement → Type 0 where
  good : {x : Term} {xs : List Term} {ls : List Literal} → Each GoodTerm (x ∷ xs) → Each GoodLiteral ls → GoodAggElement (record { terms = x ∷ xs; condition = ls })

abbrev pub agg_value : Unit {0} → AggElement → Value
agg_value u e = Value.agg_element e

abbrev pub AggItem : AggElement → Type 0
AggItem e = GoodItem (λ y z. y ≡ z) agg_element_pieces as_agg_element agg_value (Call Name.AggElement) e

no_terms : (ls : List Literal) → collected as_term (condition_values ls) ≡ []
no_terms [] = refl
no_terms (l ∷ ls) = refl

agg_element_derives : {ts : List Term} {ls : List Literal} {values : List Value} {xs ms ys : List Lexeme} → Derives grammar (many (Call Name.Term) t.Comma) xs ms values → Derives grammar (opt (Call Name.Condition)) ms ys (condition_values ls) → collected as_term (values ++ condition_values ls) ≡ ts → or_empty (found as_condition (values ++ condition_values ls)) ≡ ls → Derives grammar (Call Name.AggElement) xs ys (Value.agg_element (record { terms = ts; condition = ls }) ∷ [])
agg_element_derives {xs = xs} {ys = ys} d e f h = let q = Derives.call {n = Name.AggElement} (Derives.seq d e) in rw (f, h) at q

agg_by : {x : Term} {xs : List Term} {ls : List Literal} {us ys : List Lexeme} → Each GoodTerm (x ∷ xs) → Each GoodLiteral ls → Spells (terms_pieces (x ∷ xs) ++ condition_pieces ls) us ys → Derives grammar (Call Name.AggElement) us ys (Value.agg_element (record { terms = x ∷ xs; condition = ls }) ∷ [])
agg_by {x = x} {xs = xs} {ls = ls} g h s =
    let q = split (terms_pieces (x ∷ xs)) s in
    let r = terms_read x xs g q.1 in
    agg_element_derives r.derives (condition_spelled ls h q.2)
    (collected-append as_term r.values (condition_values ls) ∙ (ap (λ ys. collected as_term r.values ++ ys) (no_terms ls) ∙ (append-nil (collected as_term r.values) ∙ (r.picked ∙ alike_same r.same))))
    (ap or_empty (found_behind term_value as_condition (λ x. refl) (λ b y. refl) (condition_values ls) r.each) ∙ found_condition ls)

pub agg_item : (e : AggElement) → GoodAggElement e → AggItem e
agg_item e (GoodAggElement.good {x = x} {xs = xs} {ls = ls} g h) = record {
  derives = λ s. record { info = tt; read = record { terms = x ∷ xs; condition = ls }; derives = agg_by g h s; same = refl };
  clear = λ rest k. clear_append (terms_pieces (x ∷ xs)) (condition_pieces ls) rest (terms_clear x xs g _ (condition_ends ls rest k)) (condition_clear ls rest h k);
}

-- ---- aggregates

function_derives : (f : Function) {x : Lexeme} {ys : List Lexeme} → Is x (function_word f) → Derives grammar (Tok t.Count ∣ Tok t.Sum) (x ∷ ys) ys (token x ∷ [])
function_derives Count i = Derives.left (Derives.tok (sign.count_is i))
function_derives Sum i = Derives.right (Derives.tok (sign.sum_is i))

function_is : (f : Function) {x : Lexeme} → Is x (function_word f) → function_of x.terminal ≡ f
function_is Count i = ap function_of (sign.count_is i)
function_is Sum i = ap function_of (sign.sum_is i)

aggregate_valued : {first : Lexeme} (vs : List Value) {f : Function} {es : List AggElement} {xs ys : List Lexeme} → Derives grammar (Call Name.Aggregate) xs ys (aggregate first (function_of first.terminal) (collected as_agg_element vs) ∷ []) → function_of first.terminal ≡ f → collected as_agg_element vs ≡ es → Derives grammar (Call Name.Aggregate) xs ys (aggregate first f es ∷ [])
aggregate_valued vs d e h = rw (e, h) at d

agg_items : (es : List AggElement) → Each GoodAggElement es → Each AggItem es
agg_items [] Each.none = Each.none
agg_items (e ∷ es) (Each.more g gs) = Each.more (agg_item e g) (agg_items es gs)

pub aggregate_spelled : (f : Function) (es : List AggElement) {xs ys : List Lexeme} → Each GoodAggElement es → Spells (spelled (function_word f) ++ in_braces (semicolons (map agg_element_pieces es))) xs ys → (first : Lexeme) × Derives grammar (Call Name.Aggregate) xs ys (aggregate first f es ∷ [])
aggregate_spelled f es g (Spells.word {x = x} i s) =
    let b = braces_spelled (λ y z. y ≡ z) agg_element_pieces as_agg_element agg_value Name.AggElement (λ x. refl) (λ i x. refl) es (agg_items es g) s in
    (x, aggregate_valued (token b.first ∷ b.rest) (Derives.call {n = Name.Aggregate} (Derives.seq (function_derives f i) b.derives)) (function_is f i) (b.picked ∙ alike_same b.same))

aggregate_clear : (f : Function) (es : List AggElement) (rest : List ℕ) → Each GoodAggElement es → Clear (spelled (function_word f) ++ in_braces (semicolons (map agg_element_pieces es))) rest
aggregate_clear Count es rest g = Clear.word sign.count_one (sign.count_apart _) (braces_clear (λ y z. y ≡ z) agg_element_pieces as_agg_element agg_value Name.AggElement (λ x. refl) (λ i x. refl) es rest (agg_items es g))
aggregate_clear Sum es rest g = Clear.word sign.sum_one (sign.sum_apart _) (braces_clear (λ y z. y ≡ z) agg_element_pieces as_agg_element agg_value Name.AggElement (λ x. refl) (λ i x. refl) es rest (agg_items es g))

-- ---- items of bodies

pub data GoodItemOf : BodyItem → Type 0 where
  plain : {l : Literal} → GoodLiteral l → GoodItemOf (items.Plain l)
  all : {at : ℕ} {l : Literal} {ls : List Literal} → GoodLiteral l → Each GoodLiteral ls → GoodItemOf (items.All at l ls)
  agg : {negated : Bool} {left : Option Guard} {f : Function} {es : List AggElement} {right : Option Guard} → GoodGuard left → Each GoodAggElement es → GoodGuard right → GoodItemOf (items.Agg negated left f es right)

-- an item that a comma may follow, or a conditional literal
pub record IsItem (n : Name) (i : BodyItem) (xs ys : List Lexeme) : Type 0 where
  pub read : BodyItem
  pub derives : Derives grammar (Call n) xs ys (item read ∷ [])
  pub same : unplaced_item read ≡ unplaced_item i

-- which rule an item is of
abbrev pub rule_of_item : BodyItem → Name
rule_of_item (items.All at l ls) = Name.Conditional
rule_of_item i = Name.OpenItem

abbrev AreNegation : Bool → List Value → Type 0
AreNegation true vs = (x : Lexeme) × (vs ≡ token x ∷ [])
AreNegation false vs = vs ≡ []

negation_derives : (negated : Bool) {xs ys : List Lexeme} → Spells (negation_pieces negated) xs ys → (vs : List Value) × Derives grammar (opt (Tok t.Not)) xs ys vs × AreNegation negated vs
negation_derives true s = let q = spaced_behind_is s in (_, from_here (sym q.1) (Derives.left (Derives.tok {t = q.0} (sign.not_is q.2))), (q.0, refl))
negation_derives false Spells.nothing = ([], Derives.right Derives.empty, refl)

negation_clear : (negated : Bool) (rest : List ℕ) → Clear (negation_pieces negated) rest
negation_clear true rest = spaced_behind_clear rest sign.not_one (sign.not_apart _)
negation_clear false rest = Clear.nothing

agg_made : (negated : Bool) (l r : Option Guard) (nv lv : List Value) (first : Lexeme) (f : Function) (es : List AggElement) → AreNegation negated nv → AreLeft l lv → made Name.OpenItem (nv ++ (lv ++ (aggregate first f es ∷ right_values r))) ≡ item (items.Agg negated l f es r)
agg_made true None None nv lv first f es n h = rw (n.1, h) refl
agg_made true None (Some r) nv lv first f es n h = rw (n.1, h) refl
agg_made true (Some l) None nv lv first f es n h = rw (n.1, h.1) refl
agg_made true (Some l) (Some r) nv lv first f es n h = rw (n.1, h.1) refl
agg_made false None None nv lv first f es n h = rw (n, h) refl
agg_made false None (Some r) nv lv first f es n h = rw (n, h) refl
agg_made false (Some l) None nv lv first f es n h = rw (n, h.1) refl
agg_made false (Some l) (Some r) nv lv first f es n h = rw (n, h.1) refl

agg_derives : {negated : Bool} {l r : Option Guard} {nv lv : List Value} {first : Lexeme} {f : Function} {es : List AggElement} {xs ms ns os ys : List Lexeme} → AreNegation negated nv → AreLeft l lv → Derives grammar (opt (Tok t.Not)) xs ms nv → Derives grammar (opt (Call Name.LeftGuard)) ms ns lv → Derives grammar (Call Name.Aggregate) ns os (aggregate first f es ∷ []) → Derives grammar (opt (Call Name.RightGuard)) os ys (right_values r) → Derives grammar (Call Name.OpenItem) xs ys (item (items.Agg negated l f es r) ∷ [])
agg_derives {negated = negated} {l = l} {r = r} {nv = nv} {lv = lv} {first = first} {f = f} {es = es} {xs = xs} {ys = ys} n h a b c d =
    subst (λ v. Derives grammar (Call Name.OpenItem) xs ys (v ∷ [])) (agg_made negated l r nv lv first f es n h) (Derives.call {n = Name.OpenItem} (Derives.right (Derives.seq a (Derives.seq b (Derives.seq c d)))))

agg_spelled : (negated : Bool) (l : Option Guard) (f : Function) (es : List AggElement) (r : Option Guard) {xs ys : List Lexeme} → GoodGuard l → Each GoodAggElement es → GoodGuard r → Spells (item_pieces (items.Agg negated l f es r)) xs ys → Derives grammar (Call Name.OpenItem) xs ys (item (items.Agg negated l f es r) ∷ [])
agg_spelled negated l f es r g gs h s =
    let q = split (negation_pieces negated ++ left_pieces l ++ spelled (function_word f) ++ in_braces (semicolons (map agg_element_pieces es))) s in
    let p = split (negation_pieces negated ++ left_pieces l ++ spelled (function_word f)) q.1 in
    let o = split (negation_pieces negated ++ left_pieces l) p.1 in
    let n = split (negation_pieces negated) o.1 in
    let neg = negation_derives negated n.1 in
    let before = left_spelled g n.2 in
    let a = aggregate_spelled f es gs (join o.2 p.2) in
    agg_derives neg.2 before.are neg.1 before.derives a.1 (right_spelled h q.2)

-- the first word, and what stands behind it
word_clear : {w : List ℕ} {ps : List Piece} {rest : List ℕ} → Clear (Spelled w ∷ ps) rest → Clear (spelled w) (text_of ps ++ rest) × Clear ps rest
word_clear (Clear.word o a c) = (Clear.word o a Clear.nothing, c)

agg_clear : (negated : Bool) (l : Option Guard) (f : Function) (es : List AggElement) (r : Option Guard) (rest : List ℕ) → GoodGuard l → Each GoodAggElement es → GoodGuard r → Ends rest → Clear (item_pieces (items.Agg negated l f es r)) rest
agg_clear negated l f es r rest g gs h e =
    let whole = word_clear (aggregate_clear f es (text_of (right_pieces r) ++ rest) gs) in
    clear_append _ (right_pieces r) rest
    (clear_append (negation_pieces negated ++ left_pieces l ++ spelled (function_word f)) (in_braces (semicolons (map agg_element_pieces es))) _
    (clear_append (negation_pieces negated ++ left_pieces l) (spelled (function_word f)) _ (clear_append (negation_pieces negated) (left_pieces l) _ (negation_clear negated _) (left_clear _ g)) whole.0) whole.1)
    (right_clear rest h e)

pub item_spelled : (i : BodyItem) {xs ys : List Lexeme} → GoodItemOf i → Spells (item_pieces i) xs ys → IsItem (rule_of_item i) i xs ys
item_spelled i (GoodItemOf.plain {l = l} g) s = let p = literal_spelled g s in record { read = items.Plain l; derives = Derives.call (Derives.left p.derives); same = refl }
item_spelled i (GoodItemOf.all {l = l} {ls = ls} g gs) s =
    let q = split3 (literal_pieces l) (spaced (codes ":")) s in
    let p = literal_spelled g q.2 in
    record { read = items.All p.first.at l ls; derives = Derives.call (Derives.seq p.derives (colon_spelled ls gs (join q.3 q.4))); same = refl }
item_spelled i (GoodItemOf.agg {negated = negated} {left = l} {f = f} {es = es} {right = r} g gs h) s =
    record { read = items.Agg negated l f es r; derives = agg_spelled negated l f es r g gs h s; same = refl }

pub item_clear : (i : BodyItem) (rest : List ℕ) → GoodItemOf i → Ends rest → Clear (item_pieces i) rest
item_clear i rest (GoodItemOf.plain g) h = literal_clear rest g h
item_clear i rest (GoodItemOf.all {l = l} {ls = ls} g gs) h = clear3 (literal_pieces l) (spaced (codes ":")) (literals_pieces ls) rest (literal_clear _ g refl) (spaced_clear _ sign.colon_one (sign.colon_apart _)) (literals_clear ls rest gs h)
item_clear i rest (GoodItemOf.agg {negated = negated} {left = l} {f = f} {es = es} {right = r} g gs h) e = agg_clear negated l f es r rest g gs h e

-- ---- bodies

pub record IsBodyRead (is : List BodyItem) (xs ys : List Lexeme) : Type 0 where
  pub read : List BodyItem
  pub derives : Derives grammar (Call Name.Body) xs ys (body read ∷ [])
  pub same : unplaced_items read ≡ unplaced_items is

last_read : (i : BodyItem) {xs ys : List Lexeme} → GoodItemOf i → Spells (item_pieces i) xs ys → IsBodyRead (i ∷ []) xs ys
last_read i (GoodItemOf.plain g) s = let p = item_spelled i (GoodItemOf.plain g) s in record { read = p.read ∷ []; derives = Derives.call (Derives.left (Derives.seq p.derives (Derives.right Derives.empty))); same = ap (λ j. j ∷ []) p.same }
last_read i (GoodItemOf.all g gs) s = let p = item_spelled i (GoodItemOf.all g gs) s in record { read = p.read ∷ []; derives = Derives.call (Derives.right (Derives.seq p.derives (Derives.right Derives.empty))); same = ap (λ j. j ∷ []) p.same }
last_read i (GoodItemOf.agg g gs h) s = let p = item_spelled i (GoodItemOf.agg g gs h) s in record { read = p.read ∷ []; derives = Derives.call (Derives.left (Derives.seq p.derives (Derives.right Derives.empty))); same = ap (λ j. j ∷ []) p.same }

same_more : (i j : BodyItem) (is js : List BodyItem) → unplaced_item i ≡ unplaced_item j → unplaced_items is ≡ unplaced_items js → unplaced_items (i ∷ is) ≡ unplaced_items (j ∷ js)
same_more i j is js e h = rw (e, h) refl

open_more : {i j : BodyItem} {is : List BodyItem} {xs ms ys : List Lexeme} → Derives grammar (Call Name.OpenItem) xs ms (item j ∷ []) → unplaced_item j ≡ unplaced_item i → (c : (x : Lexeme) × (ns : List Lexeme) × (ms ≡ x ∷ ns) × Is x (codes ",") × IsBodyRead is ns ys) → IsBodyRead (i ∷ is) xs ys
open_more {i = i} {j = j} {is = is} d e c = record { read = j ∷ c.4.read; derives = Derives.call (Derives.left (Derives.seq (up_to c.2 d) (Derives.left (Derives.seq (Derives.left (Derives.tok {t = c.0} (sign.comma_is c.3))) c.4.derives)))); same = same_more j i c.4.read is e c.4.same }

all_more : {i j : BodyItem} {is : List BodyItem} {xs ms ys : List Lexeme} → Derives grammar (Call Name.Conditional) xs ms (item j ∷ []) → unplaced_item j ≡ unplaced_item i → (c : (x : Lexeme) × (ns : List Lexeme) × (ms ≡ x ∷ ns) × Is x (codes ";") × IsBodyRead is ns ys) → IsBodyRead (i ∷ is) xs ys
all_more {i = i} {j = j} {is = is} d e c = record { read = j ∷ c.4.read; derives = Derives.call (Derives.right (Derives.seq (up_to c.2 d) (Derives.left (Derives.seq (Derives.tok {t = c.0} (sign.semicolon_is c.3)) c.4.derives)))); same = same_more j i c.4.read is e c.4.same }

more_read : (i : BodyItem) {is : List BodyItem} {ps : List Piece} {xs ys : List Lexeme} → GoodItemOf i → Spells (item_pieces i ++ separator i ++ ps) xs ys → ((ns : List Lexeme) → Spells ps ns ys → IsBodyRead is ns ys) → IsBodyRead (i ∷ is) xs ys
more_read i (GoodItemOf.plain g) s h =
    let q = split3 (item_pieces i) (separator i) s in
    let p = item_spelled i (GoodItemOf.plain g) q.2 in
    let c = spaced_behind_is q.3 in
    open_more p.derives p.same (c.0, q.1, c.1, c.2, h q.1 q.4)
more_read i (GoodItemOf.agg g gs k) s h =
    let q = split3 (item_pieces i) (separator i) s in
    let p = item_spelled i (GoodItemOf.agg g gs k) q.2 in
    let c = spaced_behind_is q.3 in
    open_more p.derives p.same (c.0, q.1, c.1, c.2, h q.1 q.4)
more_read i (GoodItemOf.all g gs) s h =
    let q = split3 (item_pieces i) (separator i) s in
    let p = item_spelled i (GoodItemOf.all g gs) q.2 in
    let c = spaced_behind_is q.3 in
    all_more p.derives p.same (c.0, q.1, c.1, c.2, h q.1 q.4)

pub body_spelled : (i : BodyItem) (is : List BodyItem) {xs ys : List Lexeme} → Each GoodItemOf (i ∷ is) → Spells (body_pieces (i ∷ is)) xs ys → IsBodyRead (i ∷ is) xs ys
body_spelled i [] (Each.more g Each.none) s = last_read i g s
body_spelled i (j ∷ js) (Each.more g gs) s = more_read i g s (λ ns t. body_spelled j js gs t)

separator_clear : (i : BodyItem) (rest : List ℕ) → GoodItemOf i → Clear (separator i) rest
separator_clear i rest (GoodItemOf.plain g) = spaced_behind_clear rest sign.comma_one (sign.comma_apart _)
separator_clear i rest (GoodItemOf.agg g gs h) = spaced_behind_clear rest sign.comma_one (sign.comma_apart _)
separator_clear i rest (GoodItemOf.all g gs) = spaced_behind_clear rest sign.semicolon_one (sign.semicolon_apart _)

separator_ends : (i : BodyItem) (rest : List ℕ) → GoodItemOf i → Ends (text_of (separator i) ++ rest)
separator_ends i rest (GoodItemOf.plain g) = refl
separator_ends i rest (GoodItemOf.agg g gs h) = refl
separator_ends i rest (GoodItemOf.all g gs) = refl

pub body_clear : (is : List BodyItem) (rest : List ℕ) → Each GoodItemOf is → Ends rest → Clear (body_pieces is) rest
body_clear [] rest g h = Clear.nothing
body_clear (i ∷ []) rest (Each.more g gs) h = item_clear i rest g h
body_clear (i ∷ j ∷ js) rest (Each.more g gs) h = clear3 (item_pieces i) (separator i) (body_pieces (j ∷ js)) rest (item_clear i _ g (separator_ends i _ g)) (separator_clear i _ g) (body_clear (j ∷ js) rest gs h)
