-- Terms read back.
use Rattle.std.proofs.Common.{◌≡◌, ℕ, pos, true, List, [], ◌∷◌, ◌++◌, map, Option, Some, None, refl, sym, ap, subst, ◌∙◌}
use Rattle.std.specs.Prelude.{codes}
use Rattle.std.specs.List.{list_all}
use Rattle.ap_lex.specs.Bytes.{is_word_byte}
use Rattle.std.proofs.lemmas.List.{append-nil}
use Rattle.grammar.specs.Form.{Derives, ◌⨾◌, ◌∣◌}
use Rattle.grammar.specs.Form.Form.{Tok, Call}
use Rattle.ap_syntax.specs.declared.terms.Atom.{Atom}
use Rattle.ap_syntax.specs.declared.terms.ProductOp.{ProductOp}
use Rattle.ap_syntax.specs.declared.terms.ProductOp.TheVariants.{Times, Over, Rest}
use Rattle.ap_syntax.specs.declared.terms.SumOp.{SumOp}
use Rattle.ap_syntax.specs.declared.terms.SumOp.TheVariants as sums
use Rattle.ap_syntax.specs.declared.terms.Term.{Term, fold-roll-Term}
use Rattle.ap_syntax.specs.declared.terms.Term.TheVariants as terms
use Rattle.ap_syntax.specs.declared.terms.Term.TheOpen.{Term-F}
use Rattle.ap_syntax.specs.Pieces.{commas, in_parentheses, spaced, spaced_behind, spelled}
use Rattle.ap_syntax.specs.CanonicalTerms.{Written, applied, at_least, members, product_sign, sum_sign, term_pieces, term_step, written}
use Rattle.ap_lex.specs.declared.token.Kind.TheVariants.{Num, Str, Var, Any}
use Rattle.ap_lex.specs.Pieces.{token_at, word_at, word_kind}
use Rattle.ap_grammar.specs.declared.terminals.Terminal.{Terminal}
use Rattle.ap_grammar.specs.declared.terminals.Terminal.TheVariants as t
use Rattle.ap_grammar.specs.Lexemes.{Lexeme, string_of, decimal}
use Rattle.ap_grammar.specs.Values.{Value, as_term, collected}
use Rattle.ap_grammar.specs.Values.Value.{token, term}
use Rattle.ap_grammar.specs.Grammar.{Name, grammar, group, primary, rule_of, sum_of, product_of, many}
use Rattle.ap_grammar.proofs.Sorts.{name_primary}
use Rattle.canonical_law.proofs.Lexing.{Apart, Ends, IsOneToken, word_apart}
use Rattle.canonical_law.proofs.Spells.{Is, Spells, Clear, split, split3, clear_append, clear3, spaced_is, spaced_behind_is, spelled_is, spaced_clear, spaced_behind_clear}
use Rattle.canonical_law.proofs.Signs as sign
use Rattle.canonical_law.proofs.Names.{GoodName, name_kind, ident_derives, name_clear}
use Rattle.canonical_law.proofs.Numbers.{GoodNumber}
use Rattle.canonical_law.proofs.Strings.{good_string}
use Rattle.canonical_law.proofs.Chains.{longer, star_longer}
use Rattle.canonical_law.proofs.Levels.{Level, IsTerm, IsSum, IsProduct, Good, GoodTerm, placed, placed_clear, product_term, sum_term, closing, parentheses_clear}
use Rattle.canonical_law.proofs.Lists.{Each, alike_same, Between, GoodItem, AreRead, all_read, all_clear, collected-append, from_here, up_to}

-- ---- one token

-- the value of a token that is a primary term
leaf : {x : Lexeme} {ys : List Lexeme} {y : Term} {k : Terminal} → Derives grammar (rule_of Name.Primary) (x ∷ ys) ys (token x ∷ []) → x.terminal ≡ k → primary k x [] ≡ term x None y → IsTerm Name.Primary (x ∷ ys) ys y
leaf {x = x} {ys = ys} d e v = record {
  first = x;
  name = None;
  derives = subst (λ v. Derives grammar (Call Name.Primary) (x ∷ ys) ys (v ∷ [])) (ap (λ k. primary k x []) e ∙ v) (Derives.call {n = Name.Primary} d);
}

one_word : {w : List ℕ} {xs ys : List Lexeme} {y : Term} → ((x : Lexeme) → Is x w → IsTerm Name.Primary (x ∷ ys) ys y) → Spells (spelled w) xs ys → IsTerm Name.Primary xs ys y
one_word h (Spells.word i Spells.nothing) = h _ i

pub good_int : (n : ℕ) → GoodNumber n → GoodTerm (terms.Int (pos n))
good_int n g = subst (λ w. Good w (terms.Int (pos n))) (sym (ap written (sym (terms.rolls-Int (pos n))) ∙ fold-roll-Term Written term_step (Term-F.Int (pos n)))) (record {
  level = Level.Primary;
  is = refl;
  derives = one_word (λ x i. let e = sign.fixed Num t.Number g.one refl i in leaf (Derives.left (Derives.tok e)) e (ap (λ m. term x None (terms.Int (pos m))) (ap decimal i.bytes ∙ g.value)));
  clear = λ rest h. Clear.word g.one (g.apart rest h) Clear.nothing;
})

pub good_str : (cs : List ℕ) → GoodTerm (terms.Str cs)
good_str cs = let g = good_string cs in subst (λ w. Good w (terms.Str cs)) (sym (ap written (sym (terms.rolls-Str cs)) ∙ fold-roll-Term Written term_step (Term-F.Str cs))) (record {
  level = Level.Primary;
  is = refl;
  derives = one_word (λ x i. let e = sign.fixed Str t.String g.one refl i in leaf (Derives.right (Derives.left (Derives.tok e))) e (ap (λ ds. term x None (terms.Str ds)) (ap string_of i.bytes ∙ g.value)));
  clear = λ rest h. Clear.word g.one (g.apart rest) Clear.nothing;
})

-- the name of a variable
pub record GoodVariable (w : List ℕ) : Type 0 where
  pub one : IsOneToken w Var
  pub passes : list_all is_word_byte w ≡ true
  pub apart : (rest : List ℕ) → Ends rest → Apart w rest

pub good_var : (name : List ℕ) → GoodVariable name → GoodTerm (terms.Var name)
good_var name g = subst (λ w. Good w (terms.Var name)) (sym (ap written (sym (terms.rolls-Var name)) ∙ fold-roll-Term Written term_step (Term-F.Var name))) (record {
  level = Level.Primary;
  is = refl;
  derives = one_word (λ x i. let e = sign.fixed Var t.Variable g.one refl i in leaf (Derives.right (Derives.right (Derives.left (Derives.tok e)))) e (ap (λ ds. term x None (terms.Var ds)) i.bytes));
  clear = λ rest h. Clear.word g.one (g.apart rest h) Clear.nothing;
})

pub any_one : IsOneToken (codes "_") Any
unfolding token_at word_at word_kind
any_one = refl

pub good_any : GoodTerm terms.Any
good_any = subst (λ w. Good w terms.Any) (sym (ap written (sym terms.rolls-Any) ∙ fold-roll-Term Written term_step Term-F.Any)) (record {
  level = Level.Primary;
  is = refl;
  derives = one_word (λ x i. let e = sign.fixed Any t.Any any_one refl i in leaf (Derives.right (Derives.right (Derives.right (Derives.left (Derives.tok e))))) e refl);
  clear = λ rest h. Clear.word any_one (word_apart 95 [] rest refl refl h) Clear.nothing;
})

-- ---- names

const_read : {name : List ℕ} {x : Lexeme} {ys : List Lexeme} → GoodName name → Is x name → IsTerm Name.Primary (x ∷ ys) ys (terms.Const name)
const_read {x = x} {ys = ys} g i =
    let k = name_kind g i in
    let d = Derives.call {n = Name.Primary} (Derives.right (Derives.right (Derives.right (Derives.right (Derives.left (Derives.seq (ident_derives {xs = ys} k) (Derives.right Derives.empty))))))) in
    record { first = x; name = _; derives = subst (λ v. Derives grammar (Call Name.Primary) (x ∷ ys) ys (v ∷ [])) (name_primary x [] k ∙ ap (λ b. term x (Some (record { name = x.bytes; terms = [] })) (terms.Const b)) i.bytes) d }

pub good_const : (name : List ℕ) → GoodName name → GoodTerm (terms.Const name)
good_const name g = subst (λ w. Good w (terms.Const name)) (sym (ap written (sym (terms.rolls-Const name)) ∙ fold-roll-Term Written term_step (Term-F.Const name))) (record {
  level = Level.Primary;
  is = refl;
  derives = one_word (λ x i. const_read g i);
  clear = λ rest h. name_clear rest g h;
})

-- ---- lists of terms

-- a term brings its first token, and the atom as which it may be read
abbrev pub term_value : (Lexeme × Option Atom) → Term → Value
term_value info x = term info.0 info.1 x

abbrev pub TermItem : Term → Type 0
TermItem x = GoodItem (λ y z. y ≡ z) term_pieces as_term term_value (Call Name.Term) x

pub term_item : (x : Term) → GoodTerm x → TermItem x
term_item x g = record {
  derives = λ s. let p = placed Level.Interval g s in record { info = (p.first, p.name); read = x; derives = p.derives; same = refl };
  clear = λ rest h. placed_clear 0 g rest h;
}

pub term_items : (xs : List Term) → Each GoodTerm xs → Each TermItem xs
term_items [] Each.none = Each.none
term_items (x ∷ xs) (Each.more g gs) = Each.more (term_item x g) (term_items xs gs)

pub comma_between : Between (spaced_behind (codes ",")) t.Comma
comma_between = record {
  derives = λ s. let q = spaced_behind_is s in (q.0, q.1, sign.comma_is q.2);
  clear = λ rest. spaced_behind_clear rest sign.comma_one (sign.comma_apart _);
  ends = λ rest. refl;
}

pub term_pieces_of : (xs : List Term) → map (at_least 0) (map written xs) ≡ map term_pieces xs
term_pieces_of [] = refl
term_pieces_of (x ∷ xs) = ap (λ ps. term_pieces x ∷ ps) (term_pieces_of xs)

pub terms_read : (x : Term) (xs : List Term) {ts us : List Lexeme} → Each GoodTerm (x ∷ xs) → Spells (commas (map term_pieces (x ∷ xs))) ts us → AreRead (λ y z. y ≡ z) term_pieces as_term term_value (Call Name.Term) (many (Call Name.Term) t.Comma) (x ∷ xs) ts us
terms_read x xs g s = all_read _ term_pieces as_term term_value (Call Name.Term) t.Comma _ comma_between (λ x. refl) (λ i x. refl) x xs (term_items (x ∷ xs) g) s

pub terms_clear : (x : Term) (xs : List Term) → Each GoodTerm (x ∷ xs) → (rest : List ℕ) → Ends rest → Clear (commas (map term_pieces (x ∷ xs))) rest
terms_clear x xs g rest h = all_clear (λ y z. y ≡ z) term_pieces as_term term_value (Call Name.Term) t.Comma _ comma_between (λ x. refl) (λ i x. refl) x xs (term_items (x ∷ xs) g) rest h

-- behind terms stands a parenthesis
pub terms_before : (values : List Value) (close : Lexeme) {xs : List Term} → collected as_term values ≡ xs → collected as_term (values ++ token close ∷ []) ≡ xs
terms_before values close e = collected-append as_term values (token close ∷ []) ∙ (append-nil (collected as_term values) ∙ e)

-- ---- names with arguments

pub arguments_derive : (x : Term) (xs : List Term) {ts us : List Lexeme} → Each GoodTerm (x ∷ xs) → Spells (in_parentheses (commas (map term_pieces (x ∷ xs)))) ts us → Derives grammar (Call Name.Arguments) ts us (Value.terms (x ∷ xs) ∷ [])
arguments_derive x xs {ts = ts} {us = us} g s =
    let q = split3 (spelled (codes "(")) (commas (map term_pieces (x ∷ xs))) s in
    let o = spelled_is q.2 in
    let c = closing q.4 in
    let r = terms_read x xs g q.3 in
    let all : collected as_term r.values ≡ x ∷ xs = r.picked ∙ alike_same r.same in
    let d = Derives.call {n = Name.Arguments} (Derives.seq (Derives.tok {t = o.0} (sign.open_is o.2)) (Derives.seq (up_to c.1 r.derives) (Derives.tok {t = c.0} {ts = us} c.2))) in
    from_here (sym o.1) (subst (λ vs. Derives grammar (Call Name.Arguments) (o.0 ∷ q.0) us (Value.terms vs ∷ [])) (terms_before r.values c.0 all) d)

fun_read : {name : List ℕ} {x : Lexeme} {ts us : List Lexeme} {ys : List Term} → GoodName name → Is x name → Derives grammar (Call Name.Arguments) ts us (Value.terms ys ∷ []) → IsTerm Name.Primary (x ∷ ts) us (terms.Fun name ys)
fun_read {x = x} {ts = ts} {us = us} {ys = ys} g i a =
    let k = name_kind g i in
    let d = Derives.call {n = Name.Primary} (Derives.right (Derives.right (Derives.right (Derives.right (Derives.left (Derives.seq (ident_derives {xs = ts} k) (Derives.left a))))))) in
    record { first = x; name = _; derives = subst (λ v. Derives grammar (Call Name.Primary) (x ∷ ts) us (v ∷ [])) (name_primary x (Value.terms ys ∷ []) k ∙ ap (λ b. term x (Some (record { name = x.bytes; terms = ys })) (terms.Fun b ys)) i.bytes) d }

fun_spelled : {name : List ℕ} {y : Term} {ys : List Term} {xs us : List Lexeme} → GoodName name → Each GoodTerm (y ∷ ys) → Spells (spelled name ++ in_parentheses (commas (map term_pieces (y ∷ ys)))) xs us → IsTerm Name.Primary xs us (terms.Fun name (y ∷ ys))
fun_spelled {y = y} {ys = ys} g gs (Spells.word i s) = fun_read g i (arguments_derive y ys gs s)

applied_clear : {name : List ℕ} (y : Term) (ys : List Term) (rest : List ℕ) → GoodName name → Each GoodTerm (y ∷ ys) → Clear (spelled name ++ in_parentheses (commas (map term_pieces (y ∷ ys)))) rest
applied_clear y ys rest g gs = Clear.word g.one (g.apart _ refl) (parentheses_clear _ rest (terms_clear y ys gs))

pub good_fun : (name : List ℕ) (y : Term) (ys : List Term) → GoodName name → Each GoodTerm (y ∷ ys) → GoodTerm (terms.Fun name (y ∷ ys))
good_fun name y ys g gs = subst (λ w. Good w (terms.Fun name (y ∷ ys))) (sym (ap written (sym (terms.rolls-Fun name (y ∷ ys))) ∙ fold-roll-Term Written term_step (Term-F.Fun name (y ∷ ys)) ∙ ap (λ ps. record { level = 4; pieces = applied name ps }) (term_pieces_of (y ∷ ys)))) (record {
  level = Level.Primary;
  is = refl;
  derives = fun_spelled g gs;
  clear = λ rest h. applied_clear y ys rest g gs;
})

-- ---- tuples

-- behind the parenthesis of a tuple of two members or more
pub pair_value : (first : Lexeme) (inner : Lexeme) (name : Option Atom) (x : Term) (comma : Lexeme) (values : List Value) (close : Lexeme) (y : Term) (ys : List Term) → collected as_term values ≡ y ∷ ys → group first (term inner name x ∷ token comma ∷ (values ++ token close ∷ [])) ≡ term first None (terms.Tuple (x ∷ y ∷ ys))
pair_value first inner name x comma [] close y ys e = absurd cc
pair_value first inner name x comma (v ∷ vs) close y ys e = ap (λ ts. term first None (terms.Tuple (x ∷ ts))) (terms_before (v ∷ vs) close e)

-- a primary term in parentheses, by what stands in them
parenthesised : {o : Lexeme} {ms us : List Lexeme} {vs : List Value} {y : Term} → o.terminal ≡ t.Open → Derives grammar (rule_of Name.Primary) (o ∷ ms) us (token o ∷ vs) → group o vs ≡ term o None y → IsTerm Name.Primary (o ∷ ms) us y
parenthesised {o = o} {ms = ms} {us = us} {vs = vs} e d v = record {
  first = o;
  name = None;
  derives = subst (λ v. Derives grammar (Call Name.Primary) (o ∷ ms) us (v ∷ [])) (ap (λ k. primary k o vs) e ∙ v) (Derives.call {n = Name.Primary} d);
}

term_from : {n : Name} {xs ms ys : List Lexeme} {x : Term} → ms ≡ xs → IsTerm n ms ys x → IsTerm n xs ys x
term_from e p = record { first = p.first; name = p.name; derives = from_here e p.derives }

-- the alternatives of a primary term that begin with a parenthesis

as_empty : {xs ys : List Lexeme} {vs : List Value} → Derives grammar (Tok t.Open ⨾ Tok t.Close) xs ys vs → Derives grammar (rule_of Name.Primary) xs ys vs
as_empty d = Derives.right (Derives.right (Derives.right (Derives.right (Derives.right (Derives.right (Derives.left d))))))

as_single : {xs ys : List Lexeme} {vs : List Value} → Derives grammar (Tok t.Open ⨾ Call Name.Term ⨾ Tok t.Comma ⨾ Tok t.Close) xs ys vs → Derives grammar (rule_of Name.Primary) xs ys vs
as_single d = Derives.right (Derives.right (Derives.right (Derives.right (Derives.right (Derives.right (Derives.right (Derives.left d)))))))

as_several : {xs ys : List Lexeme} {vs : List Value} → Derives grammar (Tok t.Open ⨾ Call Name.Term ⨾ Tok t.Comma ⨾ many (Call Name.Term) t.Comma ⨾ Tok t.Close) xs ys vs → Derives grammar (rule_of Name.Primary) xs ys vs
as_several d = Derives.right (Derives.right (Derives.right (Derives.right (Derives.right (Derives.right (Derives.right (Derives.right d)))))))

empty_spelled : {xs ys : List Lexeme} → Spells (in_parentheses []) xs ys → IsTerm Name.Primary xs ys (terms.Tuple [])
empty_spelled (Spells.word i s) =
    let c = closing s in
    let o = sign.open_is i in
    parenthesised o (as_empty (Derives.seq (Derives.tok o) (from_here (sym c.1) (Derives.tok {t = c.0} c.2)))) refl

single_spelled : {x : Term} {xs ys : List Lexeme} → GoodTerm x → Spells (in_parentheses (term_pieces x ++ spaced_behind (codes ","))) xs ys → IsTerm Name.Primary xs ys (terms.Tuple (x ∷ []))
single_spelled {x = x} {ys = ys} g s =
    let q = split3 (spelled (codes "(")) (term_pieces x ++ spaced_behind (codes ",")) s in
    let o = spelled_is q.2 in
    let c = closing q.4 in
    let p = split (term_pieces x) q.3 in
    let k = spaced_behind_is p.2 in
    let a = placed Level.Interval g p.1 in
    let e = sign.open_is o.2 in
    term_from (sym o.1) (parenthesised e (as_single (Derives.seq (Derives.tok e) (Derives.seq (up_to k.1 a.derives) (Derives.seq (up_to c.1 (Derives.tok {t = k.0} (sign.comma_is k.2))) (Derives.tok {t = c.0} {ts = ys} c.2))))) refl)

several_spelled : {x y : Term} {zs : List Term} {xs ys : List Lexeme} → Each GoodTerm (x ∷ y ∷ zs) → Spells (in_parentheses (commas (map term_pieces (x ∷ y ∷ zs)))) xs ys → IsTerm Name.Primary xs ys (terms.Tuple (x ∷ y ∷ zs))
several_spelled {x = x} {y = y} {zs = zs} {ys = ys} (Each.more g gs) s =
    let q = split3 (spelled (codes "(")) (commas (map term_pieces (x ∷ y ∷ zs))) s in
    let o = spelled_is q.2 in
    let c = closing q.4 in
    let p = split3 (term_pieces x) (spaced_behind (codes ",")) q.3 in
    let k = spaced_behind_is p.3 in
    let a = placed Level.Interval g p.2 in
    let r = terms_read y zs gs p.4 in
    let all : collected as_term r.values ≡ y ∷ zs = r.picked ∙ alike_same r.same in
    let e = sign.open_is o.2 in
    term_from (sym o.1) (parenthesised e (as_several (Derives.seq (Derives.tok e) (Derives.seq (up_to k.1 a.derives) (Derives.seq (Derives.tok {t = k.0} (sign.comma_is k.2)) (Derives.seq (up_to c.1 r.derives) (Derives.tok {t = c.0} {ts = ys} c.2))))))
    (pair_value o.0 a.first a.name x k.0 r.values c.0 y zs all))

tuple_spelled : (xs : List Term) {ts us : List Lexeme} → Each GoodTerm xs → Spells (in_parentheses (members (map term_pieces xs))) ts us → IsTerm Name.Primary ts us (terms.Tuple xs)
tuple_spelled [] g s = empty_spelled s
tuple_spelled (x ∷ []) (Each.more g gs) s = single_spelled g s
tuple_spelled (x ∷ y ∷ zs) g s = several_spelled g s

members_clear : (xs : List Term) (rest : List ℕ) → Each GoodTerm xs → Ends rest → Clear (members (map term_pieces xs)) rest
members_clear [] rest g h = Clear.nothing
members_clear (x ∷ []) rest (Each.more g gs) h = clear_append (term_pieces x) (spaced_behind (codes ",")) rest (placed_clear 0 g _ refl) (spaced_behind_clear rest sign.comma_one (sign.comma_apart _))
members_clear (x ∷ y ∷ zs) rest g h = terms_clear x (y ∷ zs) g rest h

pub good_tuple : (xs : List Term) → Each GoodTerm xs → GoodTerm (terms.Tuple xs)
good_tuple xs g = subst (λ w. Good w (terms.Tuple xs)) (sym (ap written (sym (terms.rolls-Tuple xs)) ∙ fold-roll-Term Written term_step (Term-F.Tuple xs) ∙ ap (λ ps. record { level = 4; pieces = in_parentheses (members ps) }) (term_pieces_of xs))) (record {
  level = Level.Primary;
  is = refl;
  derives = tuple_spelled xs g;
  clear = λ rest h. parentheses_clear _ rest (λ more e. members_clear xs more g e);
})

-- ---- operators

minus_spelled : {x : Term} {xs ys : List Lexeme} → GoodTerm x → Spells (spelled (codes "-") ++ at_least 4 (written x)) xs ys → IsTerm Name.Unary xs ys (terms.Minus x)
minus_spelled {ys = ys} g (Spells.word i s) = let a = placed Level.Primary g s in record { first = _; name = None; derives = Derives.call (Derives.seq (Derives.left (Derives.tok (sign.minus_is i))) a.derives) }

pub good_minus : (x : Term) → GoodTerm x → GoodTerm (terms.Minus x)
good_minus x g = subst (λ w. Good w (terms.Minus x)) (sym (ap written (sym (terms.rolls-Minus x)) ∙ fold-roll-Term Written term_step (Term-F.Minus x))) (record {
  level = Level.Negation;
  is = refl;
  derives = minus_spelled g;
  clear = λ rest h. Clear.word sign.minus_one (sign.minus_apart _) (placed_clear 4 g rest h);
})

sum_sign_derives : (op : SumOp) {x : Lexeme} {ys : List Lexeme} → Is x (sum_sign op) → Derives grammar (Tok t.Plus ∣ Tok t.Minus) (x ∷ ys) ys (token x ∷ [])
sum_sign_derives sums.Plus i = Derives.left (Derives.tok (sign.plus_is i))
sum_sign_derives sums.Less i = Derives.right (Derives.tok (sign.minus_is i))

sum_tree : (op : SumOp) {x : Lexeme} (l r : Term) → Is x (sum_sign op) → sum_of x.terminal l r ≡ terms.Sum l op r
sum_tree sums.Plus l r i = ap (λ k. sum_of k l r) (sign.plus_is i)
sum_tree sums.Less l r i = ap (λ k. sum_of k l r) (sign.minus_is i)

sum_sign_clear : (op : SumOp) (rest : List ℕ) → Clear (spaced (sum_sign op)) rest
sum_sign_clear sums.Plus rest = spaced_clear rest sign.plus_one (sign.plus_apart _)
sum_sign_clear sums.Less rest = spaced_clear rest sign.minus_one (sign.minus_apart _)

sum_more : {xs ms ns ys : List Lexeme} {l r : Term} {x : Lexeme} (op : SumOp) → IsSum xs ms l → ms ≡ x ∷ ns → Is x (sum_sign op) → IsTerm Name.Product ns ys r → IsSum xs ys (terms.Sum l op r)
sum_more {l = l} {r = r} {x = x} op a e i b = record {
  front = a.front;
  middle = a.middle;
  begins = a.begins;
  values = _;
  rest = star_longer (up_to e a.rest) (Derives.seq (sum_sign_derives op i) b.derives);
  chain = (let c = longer x b.first b.name r a.chain in rw (sum_tree op l r i) at c);
}

sum_spelled : {l r : Term} (op : SumOp) {xs ys : List Lexeme} → GoodTerm l → GoodTerm r → Spells (at_least 1 (written l) ++ spaced (sum_sign op) ++ at_least 2 (written r)) xs ys → IsSum xs ys (terms.Sum l op r)
sum_spelled {l = l} {r = r} op g h s =
    let q = split3 (at_least 1 (written l)) (spaced (sum_sign op)) s in
    let o = spaced_is q.3 in
    sum_more op (placed Level.Sum g q.2) o.1 o.2 (product_term (placed Level.Product h q.4))

pub good_sum : (l : Term) (op : SumOp) (r : Term) → GoodTerm l → GoodTerm r → GoodTerm (terms.Sum l op r)
good_sum l op r g h = subst (λ w. Good w (terms.Sum l op r)) (sym (ap written (sym (terms.rolls-Sum l op r)) ∙ fold-roll-Term Written term_step (Term-F.Sum l op r))) (record {
  level = Level.Sum;
  is = refl;
  derives = sum_spelled op g h;
  clear = λ rest e. clear3 _ _ _ rest (placed_clear 1 g _ refl) (sum_sign_clear op _) (placed_clear 2 h rest e);
})

product_sign_derives : (op : ProductOp) {x : Lexeme} {ys : List Lexeme} → Is x (product_sign op) → Derives grammar (Tok t.Times ∣ Tok t.Slash ∣ Tok t.Backslash) (x ∷ ys) ys (token x ∷ [])
product_sign_derives Times i = Derives.left (Derives.tok (sign.times_is i))
product_sign_derives Over i = Derives.right (Derives.left (Derives.tok (sign.slash_is i)))
product_sign_derives Rest i = Derives.right (Derives.right (Derives.tok (sign.backslash_is i)))

product_tree : (op : ProductOp) {x : Lexeme} (l r : Term) → Is x (product_sign op) → product_of x.terminal l r ≡ terms.Product l op r
product_tree Times l r i = ap (λ k. product_of k l r) (sign.times_is i)
product_tree Over l r i = ap (λ k. product_of k l r) (sign.slash_is i)
product_tree Rest l r i = ap (λ k. product_of k l r) (sign.backslash_is i)

product_sign_clear : (op : ProductOp) (rest : List ℕ) → Clear (spaced (product_sign op)) rest
product_sign_clear Times rest = spaced_clear rest sign.times_one (sign.times_apart _)
product_sign_clear Over rest = spaced_clear rest sign.slash_one (sign.slash_apart _)
product_sign_clear Rest rest = spaced_clear rest sign.backslash_one (sign.backslash_apart _)

product_more : {xs ms ns ys : List Lexeme} {l r : Term} {x : Lexeme} (op : ProductOp) → IsProduct xs ms l → ms ≡ x ∷ ns → Is x (product_sign op) → IsTerm Name.Unary ns ys r → IsProduct xs ys (terms.Product l op r)
product_more {l = l} {r = r} {x = x} op a e i b = record {
  front = a.front;
  middle = a.middle;
  begins = a.begins;
  values = _;
  rest = star_longer (up_to e a.rest) (Derives.seq (product_sign_derives op i) b.derives);
  chain = (let c = longer x b.first b.name r a.chain in rw (product_tree op l r i) at c);
}

product_spelled : {l r : Term} (op : ProductOp) {xs ys : List Lexeme} → GoodTerm l → GoodTerm r → Spells (at_least 2 (written l) ++ spaced (product_sign op) ++ at_least 3 (written r)) xs ys → IsProduct xs ys (terms.Product l op r)
product_spelled {l = l} {r = r} op g h s =
    let q = split3 (at_least 2 (written l)) (spaced (product_sign op)) s in
    let o = spaced_is q.3 in
    product_more op (placed Level.Product g q.2) o.1 o.2 (placed Level.Negation h q.4)

pub good_product : (l : Term) (op : ProductOp) (r : Term) → GoodTerm l → GoodTerm r → GoodTerm (terms.Product l op r)
good_product l op r g h = subst (λ w. Good w (terms.Product l op r)) (sym (ap written (sym (terms.rolls-Product l op r)) ∙ fold-roll-Term Written term_step (Term-F.Product l op r))) (record {
  level = Level.Product;
  is = refl;
  derives = product_spelled op g h;
  clear = λ rest e. clear3 _ _ _ rest (placed_clear 2 g _ refl) (product_sign_clear op _) (placed_clear 3 h rest e);
})

range_spelled : {l r : Term} {xs ys : List Lexeme} → GoodTerm l → GoodTerm r → Spells (at_least 1 (written l) ++ spelled (codes "..") ++ at_least 1 (written r)) xs ys → IsTerm Name.Term xs ys (terms.Range l r)
range_spelled {l = l} {r = r} g h s =
    let q = split3 (at_least 1 (written l)) (spelled (codes "..")) s in
    let o = spelled_is q.3 in
    let a = sum_term (placed Level.Sum g q.2) in
    let b = sum_term (placed Level.Sum h q.4) in
    record { first = a.first; name = None; derives = Derives.call (Derives.seq (up_to o.1 a.derives) (Derives.left (Derives.seq (Derives.tok {t = o.0} (sign.dots_is o.2)) b.derives))) }

pub good_range : (l r : Term) → GoodTerm l → GoodTerm r → GoodTerm (terms.Range l r)
good_range l r g h = subst (λ w. Good w (terms.Range l r)) (sym (ap written (sym (terms.rolls-Range l r)) ∙ fold-roll-Term Written term_step (Term-F.Range l r))) (record {
  level = Level.Interval;
  is = refl;
  derives = range_spelled g h;
  clear = λ rest e. clear3 _ _ _ rest (placed_clear 1 g _ refl) (Clear.word sign.dots_one (sign.dots_apart _) Clear.nothing) (placed_clear 1 h rest e);
})
